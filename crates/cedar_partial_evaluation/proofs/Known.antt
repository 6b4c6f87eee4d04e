-- Where everything is known: what is settled, what is answered, and what is meant.
use Rattle.std.proofs.Common.{◌≡◌, ◌≢◌, true, false, Option, Some, None, refl, sym, ◌∙◌, ap}
use Rattle.cedar_partial_evaluation.specs.Unknowns.{LeafTests, EachLeaf, EachLeafOf}
use Rattle.cedar_partial_evaluation.proofs.Passing.{any, each_any}
use Rattle.cedar_language.specs.Uid.{Uid, Text}
use Rattle.cedar_language.specs.Tree.{Boolean, Context, Operator, GetAttr, HasAttr, Tree, Lit, Var, Slot, Unknown, If, And, Or, Apply, Trees, no_trees, a_tree, ValueType, Variable, SlotId}
use Rattle.cedar_language.specs.Value.{Value, Plain, Values, Kind, TypeError, RecordAttrDoesNotExist, UnlinkedSlot, Outcome, Gives, Fails}
use Rattle.cedar_language.specs.Facts.{Facts}
use Rattle.cedar_language.specs.Operators.{attribute}
use Rattle.cedar_language.specs.Meaning.{Request, Outcomes, GivesAll, OneFails, slot_outcome, boolean_of, and_of, or_of, if_of, more_of, apply_of, meaning, meanings}
use Rattle.cedar_partial_evaluation.specs.Settling.{Open, Errs, Is, Settlings, SomeErrs, AllAre, kindless, boolean, and_settled, or_settled, if_settled, and_more, apply_settled, or_entry, or_type, settled_in, all_settled_in, types_in, leaf_settlings_of, MeaningIsSettled, LeafSettlings}
use Rattle.cedar_partial_evaluation.specs.Partial.{Answers, AllEvaluated, SomeFailed, answer_of, last_answer, and_answer, or_answer, if_answer, and_next, apply_answer, partial_in, all_partial_in, leaf_answers_of, KnownIsMeaning, Evaluated, LeafAnswers}
use Rattle.cedar_language.specs.Means.{IsNotBoolean}
use Rattle.cedar_partial_evaluation.proofs.Sound.{never_open, type_meant}
use Rattle.cedar_partial_evaluation.specs.Prompt.{ErrsAs, unbound, and_left, and_right, and_left_type, and_right_type, or_left, or_right, or_left_type, or_right_type, if_test, if_type, if_then, if_else, operands, operator, no_entry, FirstErrsAs, here, behind_value, behind_open, behind_erring, KindsAreMeant, IsRefused}

-- ---- what is settled

abbrev pub kindless_all : Outcomes → Settlings
kindless_all (GivesAll vs) = AllAre vs
kindless_all (OneFails k) = SomeErrs

boolean_is : (o : Outcome) → boolean (kindless o) ≡ kindless (boolean_of o)
boolean_is (Gives (Plain (Boolean b))) = refl
boolean_is (Gives _) = refl
boolean_is (Fails k) = refl

pub and_is : (a b : Outcome) → and_settled (kindless a) (kindless b) ≡ kindless (and_of a b)
and_is (Gives (Plain (Boolean true))) b = boolean_is b
and_is (Gives (Plain (Boolean false))) b = refl
and_is (Gives _) b = refl
and_is (Fails k) b = refl

pub or_is : (a b : Outcome) → or_settled (kindless a) (kindless b) ≡ kindless (or_of a b)
or_is (Gives (Plain (Boolean false))) b = boolean_is b
or_is (Gives (Plain (Boolean true))) b = refl
or_is (Gives _) b = refl
or_is (Fails k) b = refl

pub if_is : (a b c : Outcome) → if_settled (kindless a) (kindless b) (kindless c) ≡ kindless (if_of a b c)
if_is (Gives (Plain (Boolean true))) b c = refl
if_is (Gives (Plain (Boolean false))) b c = refl
if_is (Gives _) b c = refl
if_is (Fails k) b c = refl

pub more_is : (a : Outcome) (os : Outcomes) → and_more (kindless a) (kindless_all os) ≡ kindless_all (more_of a os)
more_is (Gives v) (GivesAll vs) = refl
more_is (Gives v) (OneFails k) = refl
more_is (Fails k) (GivesAll vs) = refl
more_is (Fails k) (OneFails l) = refl

pub apply_is : (facts : Facts) (op : Operator) (os : Outcomes) → apply_settled facts op (kindless_all os) ≡ kindless (apply_of facts op os)
apply_is facts op (GivesAll vs) = refl
apply_is facts op (OneFails k) = refl

pub entry_meant : (around : LeafSettlings) (op : Operator) (ts : Trees) (o : Outcome) → or_entry around op ts (kindless o) ≡ kindless o
entry_meant around (GetAttr a) (a_tree (Var Context) no_trees) (Gives v) = refl
entry_meant around (GetAttr a) (a_tree (Var Context) no_trees) (Fails k) = refl
entry_meant around (HasAttr a) (a_tree (Var Context) no_trees) (Gives v) = refl
entry_meant around (HasAttr a) (a_tree (Var Context) no_trees) (Fails k) = refl
entry_meant around op ts o = refl

pub applied_is : (facts : Facts) (around : LeafSettlings) (op : Operator) (ts : Trees) (os : Outcomes) → all_settled_in facts around ts ≡ kindless_all os →
    settled_in facts around (Apply op ts) ≡ kindless (apply_of facts op os)
applied_is facts around op ts os h =
    ap (λ xs. or_type op (types_in facts around ts) (or_entry around op ts xs)) (ap (apply_settled facts op) h ∙ apply_is facts op os)
    ∙ ap (or_type op (types_in facts around ts)) (entry_meant around op ts (apply_of facts op os))
    ∙ type_meant op (types_in facts around ts) (apply_of facts op os)

and_not : (v : Value) (b : Outcome) → IsNotBoolean v → and_of (Gives v) b ≡ Fails TypeError
and_not (Plain (Boolean x)) b h = absurd h
and_not _ b h = refl

or_not : (v : Value) (b : Outcome) → IsNotBoolean v → or_of (Gives v) b ≡ Fails TypeError
or_not (Plain (Boolean x)) b h = absurd h
or_not _ b h = refl

if_not : (v : Value) (b c : Outcome) → IsNotBoolean v → if_of (Gives v) b c ≡ Fails TypeError
if_not (Plain (Boolean x)) b c h = absurd h
if_not _ b c h = refl

boolean_not : (v : Value) → IsNotBoolean v → boolean_of (Gives v) ≡ Fails TypeError
boolean_not (Plain (Boolean x)) h = absurd h
boolean_not _ h = refl

is_value : (o : Outcome) (v : Value) → kindless o ≡ Is v → o ≡ Gives v
is_value (Gives w) v h = cc
is_value (Fails k) v h = cc

are_values : (os : Outcomes) (vs : Values) → kindless_all os ≡ AllAre vs → os ≡ GivesAll vs
are_values (GivesAll ws) vs h = cc
are_values (OneFails k) vs h = cc

unbound_is : (o : Option Uid) → kindless (slot_outcome o) ≡ Errs → slot_outcome o ≡ Fails UnlinkedSlot
unbound_is (Some u) h = cc
unbound_is None h = refl

-- where leaves that pass are what they mean
module _ (facts : Facts) (request : Request) (around : LeafSettlings) (test : LeafTests)
    (variable : (v : Variable) → test.variable v → around.variable v ≡ Is (request.variable v))
    (unknown : (n : Text) (ty : Option ValueType) → test.unknown n ty → around.unknown n ty ≡ kindless (request.unknown n ty))
    (slot : (s : SlotId) → test.slot s → around.slot s ≡ kindless (slot_outcome (request.slots s))) where
  mutual
    pub settled_at : (t : Tree) → EachLeaf test t → settled_in facts around t ≡ kindless (meaning facts request t)
    settled_at (Lit l) h = refl
    settled_at (Var v) h = variable v h
    settled_at (Slot s) h = slot s h
    settled_at (Unknown n ty) h = unknown n ty h
    settled_at (If t y n) (h, i, j) = rw (settled_at t h, settled_at y i, settled_at n j) (if_is (meaning facts request t) (meaning facts request y) (meaning facts request n))
    settled_at (And l r) (h, i) = rw (settled_at l h, settled_at r i) (and_is (meaning facts request l) (meaning facts request r))
    settled_at (Or l r) (h, i) = rw (settled_at l h, settled_at r i) (or_is (meaning facts request l) (meaning facts request r))
    settled_at (Apply op ts) h = applied_is facts around op ts (meanings facts request ts) (all_settled_at ts h)

    all_settled_at : (ts : Trees) → EachLeafOf test ts → all_settled_in facts around ts ≡ kindless_all (meanings facts request ts)
    all_settled_at no_trees h = refl
    all_settled_at (a_tree t ts) (h, i) = rw (settled_at t h, all_settled_at ts i) (more_is (meaning facts request t) (meanings facts request ts))

  -- a kind of error to which such a tree settles is the one that it means, where that is so of an entry of the context
  module _ (Everywhere : Tree → Type 0)
      (missing : (a : Text) → test.variable Context → around.in_context a ≡ Errs → attribute facts a (request.variable Context) ≡ Fails RecordAttrDoesNotExist) where
    value_at : (t : Tree) (v : Value) → EachLeaf test t → settled_in facts around t ≡ Is v → meaning facts request t ≡ Gives v
    value_at t v m h = is_value (meaning facts request t) v (sym (settled_at t m) ∙ h)

    values_at : (ts : Trees) (vs : Values) → EachLeafOf test ts → all_settled_in facts around ts ≡ AllAre vs → meanings facts request ts ≡ GivesAll vs
    values_at ts vs m h = are_values (meanings facts request ts) vs (sym (all_settled_at ts m) ∙ h)

    not_open : (t : Tree) → EachLeaf test t → settled_in facts around t ≢ Open
    not_open t m h = never_open (meaning facts request t) (sym (settled_at t m) ∙ h)

    mutual
      pub kind_at : {t : Tree} {k : Kind} → ErrsAs facts around Everywhere t k → EachLeaf test t → meaning facts request t ≡ Fails k
      kind_at (unbound {s = s} e) m = unbound_is (request.slots s) (sym (slot s m) ∙ e)
      kind_at (and_left h) (m, _) = rw (kind_at h m) refl
      kind_at (and_right {l = l} e h) (m, n) = rw (value_at l _ m e, kind_at h n) refl
      kind_at (and_left_type {l = l} {v = v} e i) (m, _) = rw (value_at l v m e) (and_not v _ i)
      kind_at (and_right_type {l = l} {r = r} {v = v} e f i) (m, n) = rw (value_at l _ m e, value_at r v n f) (boolean_not v i)
      kind_at (or_left h) (m, _) = rw (kind_at h m) refl
      kind_at (or_right {l = l} e h) (m, n) = rw (value_at l _ m e, kind_at h n) refl
      kind_at (or_left_type {l = l} {v = v} e i) (m, _) = rw (value_at l v m e) (or_not v _ i)
      kind_at (or_right_type {l = l} {r = r} {v = v} e f i) (m, n) = rw (value_at l _ m e, value_at r v n f) (boolean_not v i)
      kind_at (if_test h) (m, _, _) = rw (kind_at h m) refl
      kind_at (if_type {t = t} {v = v} e i) (m, _, _) = rw (value_at t v m e) (if_not v _ _ i)
      kind_at (if_then {t = t} e h) (m, n, _) = rw (value_at t _ m e) (kind_at h n)
      kind_at (if_else {t = t} e h) (m, _, n) = rw (value_at t _ m e) (kind_at h n)
      kind_at (operands h) m = rw (kinds_at h m) refl
      kind_at (operator {ts = ts} {vs = vs} e f) m = rw (values_at ts vs m e) f
      kind_at (no_entry {a = a} e) (m, _) = missing a m e

      kinds_at : {ts : Trees} {k : Kind} → FirstErrsAs facts around Everywhere ts k → EachLeafOf test ts → meanings facts request ts ≡ OneFails k
      kinds_at (here h) (m, _) = rw (kind_at h m) refl
      kinds_at (behind_value {t = t} e h) (m, n) = rw (value_at t _ m e, kinds_at h n) refl
      kinds_at (behind_open {t = t} e h) (m, _) = absurd (not_open t m e)
      kinds_at (behind_erring {t = t} e f h) (m, _) = absurd (not_open t m e)

pub meaning_is_settled : MeaningIsSettled
meaning_is_settled facts request t = settled_at facts request (leaf_settlings_of request) any (λ v h. refl) (λ n ty h. refl) (λ s h. refl) t (each_any t)

pub kinds_are_meant : KindsAreMeant
kinds_are_meant facts request t k h =
    kind_at facts request (leaf_settlings_of request) any (λ v h. refl) (λ n ty h. refl) (λ s h. refl) (IsRefused facts (leaf_answers_of request))
    (λ a m e. absurd (let f : Open ≡ Errs = e in cc)) h (each_any t)

-- ---- what is answered

abbrev pub answers_of : Outcomes → Answers
answers_of (GivesAll vs) = AllEvaluated vs
answers_of (OneFails k) = SomeFailed k

last_answered : (f : Tree → Tree) (o : Outcome) → last_answer f (answer_of o) ≡ answer_of (boolean_of o)
last_answered f (Gives (Plain (Boolean b))) = refl
last_answered f (Gives _) = refl
last_answered f (Fails k) = refl

module _ (facts : Facts) where
  pub and_answered : (a b : Outcome) (r : Tree) → and_answer facts (answer_of a) (answer_of b) r ≡ answer_of (and_of a b)
  and_answered (Gives (Plain (Boolean true))) b r = last_answered (And (Lit (Boolean true))) b
  and_answered (Gives (Plain (Boolean false))) b r = refl
  and_answered (Gives _) b r = refl
  and_answered (Fails k) b r = refl

  pub or_answered : (a b : Outcome) (r : Tree) → or_answer facts (answer_of a) (answer_of b) r ≡ answer_of (or_of a b)
  or_answered (Gives (Plain (Boolean true))) b r = refl
  or_answered (Gives (Plain (Boolean false))) b r = last_answered (Or (Lit (Boolean false))) b
  or_answered (Gives _) b r = refl
  or_answered (Fails k) b r = refl

  pub if_answered : (a b c : Outcome) (y n : Tree) → if_answer facts (answer_of a) (answer_of b) (answer_of c) y n ≡ answer_of (if_of a b c)
  if_answered (Gives (Plain (Boolean true))) b c y n = refl
  if_answered (Gives (Plain (Boolean false))) b c y n = refl
  if_answered (Gives _) b c y n = refl
  if_answered (Fails k) b c y n = refl

  pub more_answered : (a : Outcome) (os : Outcomes) → and_next facts (answer_of a) (answers_of os) ≡ answers_of (more_of a os)
  more_answered (Gives v) (GivesAll vs) = refl
  more_answered (Gives v) (OneFails k) = refl
  more_answered (Fails k) os = refl

  pub apply_answered : (holds : LeafAnswers) (op : Operator) (os : Outcomes) → apply_answer facts holds op (answers_of os) ≡ answer_of (apply_of facts op os)
  apply_answered holds op (GivesAll vs) = refl
  apply_answered holds op (OneFails k) = refl

module _ (facts : Facts) (request : Request) (holds : LeafAnswers) (test : LeafTests)
    (variable : (v : Variable) → test.variable v → holds.variable v ≡ Evaluated (request.variable v))
    (unknown : (n : Text) (ty : Option ValueType) → test.unknown n ty → holds.unknown n ty ≡ answer_of (request.unknown n ty))
    (slot : (s : SlotId) → test.slot s → holds.slot s ≡ answer_of (slot_outcome (request.slots s))) where
  mutual
    pub answered_at : (t : Tree) → EachLeaf test t → partial_in facts holds t ≡ answer_of (meaning facts request t)
    answered_at (Lit l) h = refl
    answered_at (Var v) h = variable v h
    answered_at (Slot s) h = slot s h
    answered_at (Unknown n ty) h = unknown n ty h
    answered_at (If t y n) (h, i, j) = rw (answered_at t h, answered_at y i, answered_at n j) (if_answered facts (meaning facts request t) (meaning facts request y) (meaning facts request n) y n)
    answered_at (And l r) (h, i) = rw (answered_at l h, answered_at r i) (and_answered facts (meaning facts request l) (meaning facts request r) r)
    answered_at (Or l r) (h, i) = rw (answered_at l h, answered_at r i) (or_answered facts (meaning facts request l) (meaning facts request r) r)
    answered_at (Apply op ts) h = ap (apply_answer facts holds op) (all_answered_at ts h) ∙ apply_answered facts holds op (meanings facts request ts)

    all_answered_at : (ts : Trees) → EachLeafOf test ts → all_partial_in facts holds ts ≡ answers_of (meanings facts request ts)
    all_answered_at no_trees h = refl
    all_answered_at (a_tree t ts) (h, i) = rw (answered_at t h, all_answered_at ts i) (more_answered facts (meaning facts request t) (meanings facts request ts))

pub known_is_meaning : KnownIsMeaning
known_is_meaning facts request t = answered_at facts request (leaf_answers_of request) any (λ v h. refl) (λ n ty h. refl) (λ s h. refl) t (each_any t)
