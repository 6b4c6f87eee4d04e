-- Settling to an error, and to a kind of error.
use Rattle.std.proofs.Common.{◌≡◌, ◌≢◌, Bool, true, false, Option, Some, None, List, [], ◌∷◌, refl, sym, ◌∙◌, ap}
use Rattle.std.specs.FinMap as finite
use Rattle.cedar_language.specs.Uid.{Text, Name}
use Rattle.cedar_language.specs.Tree.{Boolean, Variable, Context, SlotId, Operator, Equal, GetAttr, HasAttr, MakeRecord, Tree, Lit, Var, Slot, Unknown, If, And, Or, Apply, Trees, no_trees, a_tree, ValueType}
use Rattle.cedar_language.specs.Tree as tree
use Rattle.cedar_language.specs.Value.{Value, Plain, RecordOf, Values, Kind, TypeError, RecordAttrDoesNotExist, UnlinkedSlot, Outcome, Gives, Fails}
use Rattle.cedar_language.specs.Facts.{Facts}
use Rattle.cedar_language.specs.Operators.{attribute, or_fails, applied}
use Rattle.cedar_language.specs.Means.{IsNotBoolean}
use Rattle.cedar_language.specs.Meaning.{Slots}
use Rattle.cedar_language.specs.Authorization as authorization
use Rattle.cedar_language.specs.Authorization.{request_at}
use Rattle.cedar_partial_evaluation.specs.Settling.{Settling, Open, Errs, Is, Settlings, SomeOpen, SomeErrs, AllAre, kindless, boolean, and_settled, or_settled, if_settled, and_more, apply_settled, LeafSettlings, or_entry, equal_by_types, or_type, settled_in, all_settled_in, types_in}
use Rattle.cedar_partial_evaluation.specs.Partial.{found_tree}
use Rattle.cedar_partial_evaluation.specs.Prompt.{ErrsAs, unbound, and_left, and_right, and_left_type, and_right_type, or_left, or_right, or_left_type, or_right_type, if_test, if_type, if_then, if_else, operands, operator, no_entry, FirstErrsAs, here, behind_value, behind_open, behind_erring}
use Rattle.cedar_partial_evaluation.specs.Question.{Entries, NoContext, WithEntries, Question, Told, settled_names, are_simple, only_value, entry_settled, has_settled, in_context, has_in_context, context_settled, settled_of}
use Rattle.cedar_partial_evaluation.specs.Unknowns.{types_differ}
use Rattle.cedar_partial_evaluation.specs.Filling.{ErrsEverywhere}
use Rattle.cedar_partial_evaluation.specs.Mentions.{is_known}
use Rattle.cedar_partial_evaluation.specs.Errors.{SettlingIsOne}
use Rattle.cedar_partial_evaluation.proofs.Sound.{errs_more, not_found_is_at, applied_errs}
use Rattle.cedar_partial_evaluation.proofs.Question.{name_not, each_not}
use Rattle.cedar_partial_evaluation.proofs.Passing.{mentioned_alone, mentioned}
use Rattle.cedar_partial_evaluation.proofs.Known.{kind_at}
use Rattle.cedar_partial_evaluation.proofs.Leaves.{variable_result}

-- ---- what is not Boolean

and_errs : (v : Value) (y : Settling) → IsNotBoolean v → and_settled (Is v) y ≡ Errs
and_errs (Plain (Boolean b)) y h = absurd h
and_errs _ y h = refl

or_errs : (v : Value) (y : Settling) → IsNotBoolean v → or_settled (Is v) y ≡ Errs
or_errs (Plain (Boolean b)) y h = absurd h
or_errs _ y h = refl

if_errs : (v : Value) (y z : Settling) → IsNotBoolean v → if_settled (Is v) y z ≡ Errs
if_errs (Plain (Boolean b)) y z h = absurd h
if_errs _ y z h = refl

boolean_errs : (v : Value) → IsNotBoolean v → boolean (Is v) ≡ Errs
boolean_errs (Plain (Boolean b)) h = absurd h
boolean_errs _ h = refl

abbrev context_entry : Text → Tree
context_entry a = Apply (GetAttr a) (a_tree (Var Context) no_trees)

-- ---- it errs

module _ (facts : Facts) (around : LeafSettlings) (everywhere : Tree → Type 0)
    (missing : (a : Text) → around.in_context a ≡ Errs → settled_in facts around (context_entry a) ≡ Errs) where
  mutual
    errs : {t : Tree} {k : Kind} → ErrsAs facts around everywhere t k → settled_in facts around t ≡ Errs
    errs (unbound e) = e
    errs (and_left h) = rw (errs h) refl
    errs (and_right e h) = rw (e, errs h) refl
    errs (and_left_type {v = v} e n) = rw e (and_errs v _ n)
    errs (and_right_type {v = v} e f n) = rw (e, f) (boolean_errs v n)
    errs (or_left h) = rw (errs h) refl
    errs (or_right e h) = rw (e, errs h) refl
    errs (or_left_type {v = v} e n) = rw e (or_errs v _ n)
    errs (or_right_type {v = v} e f n) = rw (e, f) (boolean_errs v n)
    errs (if_test h) = rw (errs h) refl
    errs (if_type {v = v} e n) = rw e (if_errs v _ _ n)
    errs (if_then e h) = rw e (errs h)
    errs (if_else e h) = rw e (errs h)
    errs (operands {op = op} {ts = ts} h) = rw (first_errs h) (applied_errs around op (types_in facts around ts) ts)
    errs (operator {op = op} {ts = ts} e f) = rw (e, f) (applied_errs around op (types_in facts around ts) ts)
    errs (no_entry {a = a} e) = missing a e

    first_errs : {ts : Trees} {k : Kind} → FirstErrsAs facts around everywhere ts k → all_settled_in facts around ts ≡ SomeErrs
    first_errs (here {ts = ts} h) = rw (errs h) (errs_more (all_settled_in facts around ts))
    first_errs (behind_value e h) = rw (first_errs h) refl
    first_errs (behind_open e h) = rw (first_errs h) refl
    first_errs (behind_erring e f h) = rw (first_errs h) refl

-- ---- it has a kind

abbrev HasKind : (Kind → Type 0) → Settling → Type 0
HasKind errs_as Errs = (k : Kind) × errs_as k
HasKind errs_as _ = Unit {0}

abbrev SomeHasKind : (Kind → Type 0) → Settlings → Type 0
SomeHasKind errs_as SomeErrs = (k : Kind) × errs_as k
SomeHasKind errs_as _ = Unit {0}

leaf_kind : (errs_as : Kind → Type 0) (x : Settling) → x ≢ Errs → HasKind errs_as x
leaf_kind errs_as Open n = tt
leaf_kind errs_as Errs n = absurd (n refl)
leaf_kind errs_as (Is v) n = tt

module _ (facts : Facts) (around : LeafSettlings) (everywhere : Tree → Type 0) (variable : (v : Variable) → around.variable v ≢ Errs)
    (unknown : (n : Text) (ty : Option ValueType) → around.unknown n ty ≢ Errs) (has_entry : (a : Text) → around.has_in_context a ≢ Errs) where
  abbrev Kinds : Tree → Kind → Type 0
  Kinds t k = ErrsAs facts around everywhere t k

  abbrev FirstKinds : Trees → Kind → Type 0
  FirstKinds ts k = FirstErrsAs facts around everywhere ts k

  slot_kind : (s : SlotId) (x : Settling) → around.slot s ≡ x → HasKind (Kinds (Slot s)) x
  slot_kind s Open h = tt
  slot_kind s Errs h = (UnlinkedSlot, unbound h)
  slot_kind s (Is v) h = tt

  and_right_kind : (l r : Tree) (y : Settling) → settled_in facts around l ≡ Is (Plain (Boolean true)) → settled_in facts around r ≡ y →
      HasKind (Kinds r) y → HasKind (Kinds (And l r)) (boolean y)
  and_right_kind l r Open hl hr m = tt
  and_right_kind l r Errs hl hr (k, e) = (k, and_right hl e)
  and_right_kind l r (Is (Plain (Boolean b))) hl hr m = tt
  and_right_kind l r (Is _) hl hr m = (TypeError, and_right_type hl hr tt)

  and_kind : (l r : Tree) (x y : Settling) → settled_in facts around l ≡ x → settled_in facts around r ≡ y →
      HasKind (Kinds l) x → HasKind (Kinds r) y → HasKind (Kinds (And l r)) (and_settled x y)
  and_kind l r Open y hl hr m n = tt
  and_kind l r Errs y hl hr (k, e) n = (k, and_left e)
  and_kind l r (Is (Plain (Boolean true))) y hl hr m n = and_right_kind l r y hl hr n
  and_kind l r (Is (Plain (Boolean false))) y hl hr m n = tt
  and_kind l r (Is _) y hl hr m n = (TypeError, and_left_type hl tt)

  or_right_kind : (l r : Tree) (y : Settling) → settled_in facts around l ≡ Is (Plain (Boolean false)) → settled_in facts around r ≡ y →
      HasKind (Kinds r) y → HasKind (Kinds (Or l r)) (boolean y)
  or_right_kind l r Open hl hr m = tt
  or_right_kind l r Errs hl hr (k, e) = (k, or_right hl e)
  or_right_kind l r (Is (Plain (Boolean b))) hl hr m = tt
  or_right_kind l r (Is _) hl hr m = (TypeError, or_right_type hl hr tt)

  or_kind : (l r : Tree) (x y : Settling) → settled_in facts around l ≡ x → settled_in facts around r ≡ y →
      HasKind (Kinds l) x → HasKind (Kinds r) y → HasKind (Kinds (Or l r)) (or_settled x y)
  or_kind l r Open y hl hr m n = tt
  or_kind l r Errs y hl hr (k, e) n = (k, or_left e)
  or_kind l r (Is (Plain (Boolean false))) y hl hr m n = or_right_kind l r y hl hr n
  or_kind l r (Is (Plain (Boolean true))) y hl hr m n = tt
  or_kind l r (Is _) y hl hr m n = (TypeError, or_left_type hl tt)

  taken : (t u : Tree) (y : Settling) → ((k : Kind) → Kinds u k → Kinds t k) → HasKind (Kinds u) y → HasKind (Kinds t) y
  taken t u Open f m = tt
  taken t u Errs f (k, e) = (k, f k e)
  taken t u (Is v) f m = tt

  if_kind : (t y n : Tree) (x z w : Settling) → settled_in facts around t ≡ x →
      HasKind (Kinds t) x → HasKind (Kinds y) z → HasKind (Kinds n) w → HasKind (Kinds (If t y n)) (if_settled x z w)
  if_kind t y n Open z w h m k l = tt
  if_kind t y n Errs z w h (k, e) i l = (k, if_test e)
  if_kind t y n (Is (Plain (Boolean true))) z w h m k l = taken (If t y n) y z (λ i e. if_then h e) k
  if_kind t y n (Is (Plain (Boolean false))) z w h m k l = taken (If t y n) n w (λ i e. if_else h e) l
  if_kind t y n (Is _) z w h m k l = (TypeError, if_type h tt)

  more_kind : (t : Tree) (ts : Trees) (x : Settling) (xs : Settlings) → settled_in facts around t ≡ x →
      HasKind (Kinds t) x → SomeHasKind (FirstKinds ts) xs → SomeHasKind (FirstKinds (a_tree t ts)) (and_more x xs)
  more_kind t ts Open SomeErrs h m (k, first) = (k, behind_open h first)
  more_kind t ts Errs SomeErrs h (k, e) n = (k, here e)
  more_kind t ts (Is v) SomeErrs h m (k, first) = (k, behind_value h first)
  more_kind t ts Errs SomeOpen h (k, e) n = (k, here e)
  more_kind t ts Errs (AllAre vs) h (k, e) n = (k, here e)
  more_kind t ts Open SomeOpen h m n = tt
  more_kind t ts Open (AllAre vs) h m n = tt
  more_kind t ts (Is v) SomeOpen h m n = tt
  more_kind t ts (Is v) (AllAre vs) h m n = tt

  operator_kind : (op : Operator) (ts : Trees) (vs : Values) (o : Outcome) → all_settled_in facts around ts ≡ AllAre vs →
      applied facts op vs ≡ o → HasKind (Kinds (Apply op ts)) (kindless o)
  operator_kind op ts vs (Gives v) h e = tt
  operator_kind op ts vs (Fails k) h e = (k, operator h e)

  entry_kind : (a : Text) (x : Settling) → around.in_context a ≡ x → HasKind (Kinds (context_entry a)) x
  entry_kind a Open h = tt
  entry_kind a Errs h = (RecordAttrDoesNotExist, no_entry h)
  entry_kind a (Is v) h = tt

  or_entry_kind : (op : Operator) (ts : Trees) (x : Settling) → HasKind (Kinds (Apply op ts)) x → HasKind (Kinds (Apply op ts)) (or_entry around op ts x)
  or_entry_kind (GetAttr a) (a_tree (Var Context) no_trees) Open m = entry_kind a (around.in_context a) refl
  or_entry_kind (HasAttr a) (a_tree (Var Context) no_trees) Open m = leaf_kind _ (around.has_in_context a) (has_entry a)
  or_entry_kind op ts x m = m

  equal_kind : (errs_as : Kind → Type 0) (b : Bool) → HasKind errs_as (equal_by_types b)
  equal_kind errs_as true = tt
  equal_kind errs_as false = tt

  or_type_kind : (errs_as : Kind → Type 0) (op : Operator) (os : List (Option Name)) (x : Settling) → HasKind errs_as x → HasKind errs_as (or_type op os x)
  or_type_kind errs_as (tree.Is ty) (Some u ∷ []) Open m = tt
  or_type_kind errs_as (tree.Is ty) (None ∷ []) Open m = tt
  or_type_kind errs_as Equal (o ∷ p ∷ []) Open m = equal_kind errs_as (types_differ o p)
  or_type_kind errs_as op os x m = m

  apply_kind : (op : Operator) (ts : Trees) (xs : Settlings) → all_settled_in facts around ts ≡ xs →
      SomeHasKind (FirstKinds ts) xs → HasKind (Kinds (Apply op ts)) (apply_settled facts op xs)
  apply_kind op ts SomeOpen h m = tt
  apply_kind op ts SomeErrs h (k, first) = (k, operands first)
  apply_kind op ts (AllAre vs) h m = operator_kind op ts vs (applied facts op vs) h refl

  mutual
    has_kind : (t : Tree) → HasKind (Kinds t) (settled_in facts around t)
    has_kind (Lit l) = tt
    has_kind (Unknown n ty) = leaf_kind (Kinds (Unknown n ty)) (around.unknown n ty) (unknown n ty)
    has_kind (Slot s) = slot_kind s (around.slot s) refl
    has_kind (Var v) = leaf_kind (Kinds (Var v)) (around.variable v) (variable v)
    has_kind (And l r) = and_kind l r (settled_in facts around l) (settled_in facts around r) refl refl (has_kind l) (has_kind r)
    has_kind (Or l r) = or_kind l r (settled_in facts around l) (settled_in facts around r) refl refl (has_kind l) (has_kind r)
    has_kind (If t y n) =
        if_kind t y n (settled_in facts around t) (settled_in facts around y) (settled_in facts around n) refl (has_kind t) (has_kind y) (has_kind n)
    has_kind (Apply op ts) =
        or_type_kind (Kinds (Apply op ts)) op (types_in facts around ts) (or_entry around op ts (apply_settled facts op (all_settled_in facts around ts)))
        (or_entry_kind op ts (apply_settled facts op (all_settled_in facts around ts))
        (apply_kind op ts (all_settled_in facts around ts) refl (all_have_kind ts)))

    all_have_kind : (ts : Trees) → SomeHasKind (FirstKinds ts) (all_settled_in facts around ts)
    all_have_kind no_trees = tt
    all_have_kind (a_tree t ts) = more_kind t ts (settled_in facts around t) (all_settled_in facts around ts) refl (has_kind t) (all_have_kind ts)

  kind_of : (t : Tree) (x : Settling) → HasKind (Kinds t) x → x ≡ Errs → (k : Kind) × ErrsAs facts around everywhere t k
  kind_of t Open m e = cc
  kind_of t Errs m e = m
  kind_of t (Is v) m e = cc

-- ---- a question

has_never : (b : Bool) (o : Option Tree) → has_settled b o ≢ Errs
has_never true (Some t) h = cc
has_never true None h = cc
has_never false o h = cc

only_never : (x : Settling) → only_value x ≢ Errs
only_never Open h = cc
only_never Errs h = cc
only_never (Is v) h = cc

module _ (facts : Facts) (told : Told) where
  has_entry_never : (c : Entries) (a : Text) → has_in_context facts told c a ≢ Errs
  has_entry_never NoContext a h = cc
  has_entry_never (WithEntries ks ts) a h = has_never (are_simple facts told ts) (found_tree ks ts a) h

  no_entry_found : (b : Bool) (o : Option Tree) → entry_settled facts told b o ≡ Errs → o ≡ None
  no_entry_found b None h = refl
  no_entry_found true (Some t) h = absurd (only_never (settled_in facts (settled_names told) t) h)
  no_entry_found false (Some t) h = cc

  -- a record without the entry
  record_errs : (ks : List Text) (ts : Trees) (a : Text) (xs : Settlings) → all_settled_in facts (settled_names told) ts ≡ xs → found_tree ks ts a ≡ None →
      (around : LeafSettlings) → around.in_context a ≡ Errs → around.variable Context ≡ apply_settled facts (MakeRecord ks) xs →
      settled_in facts around (context_entry a) ≡ Errs
  record_errs ks ts a SomeOpen h none around e is = rw is e
  record_errs ks ts a SomeErrs h none around e is = rw is refl
  record_errs ks ts a (AllAre vs) h none around e is = rw (is, not_found_is_at facts (settled_names told) ks ts vs a h none) refl

  missing_errs : (c : Entries) (a : Text) (around : LeafSettlings) → around.in_context a ≡ Errs → around.variable Context ≡ context_settled facts told c →
      in_context facts told c a ≡ Errs → settled_in facts around (context_entry a) ≡ Errs
  missing_errs NoContext a around e is h = cc
  missing_errs (WithEntries ks ts) a around e is h =
      record_errs ks ts a (all_settled_in facts (settled_names told) ts) refl (no_entry_found (are_simple facts told ts) (found_tree ks ts a) h) around e is

  record_lacks : (ks : List Text) (ts : Trees) (a : Text) (xs : Settlings) (w : Value) → all_settled_in facts (settled_names told) ts ≡ xs → found_tree ks ts a ≡ None →
      apply_settled facts (MakeRecord ks) xs ≡ Is w → attribute facts a w ≡ Fails RecordAttrDoesNotExist
  record_lacks ks ts a SomeOpen w h none is = cc
  record_lacks ks ts a SomeErrs w h none is = cc
  record_lacks ks ts a (AllAre vs) w h none is =
      let plain : Is (RecordOf ks vs) ≡ Is w = is in
      let same : RecordOf ks vs ≡ w = cc in
      ap (attribute facts a) (sym same) ∙ ap (or_fails RecordAttrDoesNotExist) (not_found_is_at facts (settled_names told) ks ts vs a h none)

  missing_fails : (c : Entries) (a : Text) (w : Value) → in_context facts told c a ≡ Errs → context_settled facts told c ≡ Is w → attribute facts a w ≡ Fails RecordAttrDoesNotExist
  missing_fails NoContext a w h is = cc
  missing_fails (WithEntries ks ts) a w h is =
      record_lacks ks ts a (all_settled_in facts (settled_names told) ts) w refl (no_entry_found (are_simple facts told ts) (found_tree ks ts a) h) is

module _ (facts : Facts) (q : Question) (slots : Slots) (told : Told) (everywhere : Tree → Type 0) where
  question_errs : (t : Tree) (k : Kind) → ErrsAs facts (settled_of facts q slots told) everywhere t k → settled_in facts (settled_of facts q slots told) t ≡ Errs
  question_errs t k h = errs facts (settled_of facts q slots told) everywhere (λ a e. missing_errs facts told q.context a (settled_of facts q slots told) e refl e) h

  question_kind : context_settled facts told q.context ≢ Errs → (t : Tree) → settled_in facts (settled_of facts q slots told) t ≡ Errs → (k : Kind) × ErrsAs facts (settled_of facts q slots told) everywhere t k
  question_kind fine t e =
      kind_of facts (settled_of facts q slots told) everywhere (each_not facts q told fine) (λ n ty. name_not (finite.get told n) ty) (has_entry_never facts told q.context) t
      (settled_in facts (settled_of facts q slots told) t)
      (has_kind facts (settled_of facts q slots told) everywhere (each_not facts q told fine) (λ n ty. name_not (finite.get told n) ty) (has_entry_never facts told q.context) t) e

pub settling_is_one : SettlingIsOne
settling_is_one = record {
  errs = λ facts q slots told t k h. question_errs facts q slots told (ErrsEverywhere facts q slots told) t k h;
  kind = λ facts q slots told fine t e. question_kind facts q slots told (ErrsEverywhere facts q slots told) fine t e;
  meant = λ facts q slots told known given t m k h.
      kind_at facts (request_at known slots) (settled_of facts q slots told) (mentioned_alone (is_known q) true) (variable_result facts q slots told known given) (λ n ty k. absurd k) (λ s k. refl)
      (ErrsEverywhere facts q slots told) (λ a m e. missing_fails facts told q.context a known.context e (variable_result facts q slots told known given Context m)) h (mentioned (is_known q) true t m);
}
