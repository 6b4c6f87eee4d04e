-- Linking is writing: for what a tree means and settles to, for early answers, and for kinds of errors.
use Rattle.std.proofs.Common.{◌≡◌, Option, Some, None, List, refl, ◌∙◌, ap, ◌≢◌, Bool, true, false, sym, subst}
use Rattle.cedar_language.specs.Uid.{Name, Uid, Text}
use Rattle.cedar_language.specs.Tree.{Context, SlotId, Operator, GetAttr, HasAttr, Tree, Lit, Var, Slot, Unknown, If, And, Or, Apply, Trees, no_trees, a_tree, ValueType}
use Rattle.cedar_language.specs.Facts.{Facts}
use Rattle.cedar_language.specs.Meaning.{Slots, Request, slot_outcome, apply_of, meaning, meanings}
use Rattle.cedar_partial_evaluation.specs.Settling.{Settling, Open, Errs, Is, kindless, apply_settled, LeafSettlings, or_entry, stated_in, or_type, settled_in, all_settled_in, types_in}
use Rattle.cedar_partial_evaluation.specs.Question.{settled_of, Question, Told, variable_held, held_of}
use Rattle.cedar_partial_evaluation.specs.Linking.{bound_slot, bound_tree, bound_trees, no_slots, without_slots, LinkingIsWriting}
use Rattle.std.specs.Prelude.{◌↔◌}
use Rattle.cedar_language.specs.Value.{Kind, RecordAttrDoesNotExist, UnlinkedSlot}
use Rattle.cedar_partial_evaluation.specs.Partial.{Answer, Evaluated, ResidualTree, Failed, answer_of, LeafAnswers, apply_answer, partial_in, all_partial_in}
use Rattle.cedar_partial_evaluation.specs.Prompt.{ErrsAs, unbound, and_left, and_right, and_left_type, and_right_type, or_left, or_right, or_left_type, or_right_type, if_test, if_type, if_then, if_else, operands, operator, no_entry, FirstErrsAs, here, behind_value, behind_open, behind_erring}
use Rattle.cedar_partial_evaluation.specs.Filling.{IsGiven, filled, ErrsEverywhere}
use Rattle.cedar_partial_evaluation.specs.Unknowns.{EachUnknown, EachUnknownOf}
use Rattle.cedar_partial_evaluation.specs.LinkingEarly.{StandAlike, LinkingIsWritingEarly}
use Rattle.cedar_partial_evaluation.specs.Alike.{differing, SameBut, AllSameBut}
use Rattle.cedar_partial_evaluation.proofs.Alike.{applied_alike, is_opaque, same_itself, next_same, apply_same, and_by, or_by, if_by}

module _ (facts : Facts) (request : Request) where
  slot_means : (s : SlotId) (o : Option Uid) → slot_outcome o ≡ meaning facts (without_slots request) (bound_slot s o)
  slot_means s (Some u) = refl
  slot_means s None = refl

  mutual
    means : (t : Tree) → meaning facts request t ≡ meaning facts (without_slots request) (bound_tree request.slots t)
    means (Lit l) = refl
    means (Var v) = refl
    means (Slot s) = slot_means s (request.slots s)
    means (Unknown n ty) = refl
    means (If t y n) = rw (means t, means y, means n) refl
    means (And l r) = rw (means l, means r) refl
    means (Or l r) = rw (means l, means r) refl
    means (Apply op ts) = ap (apply_of facts op) (all_mean ts)

    all_mean : (ts : Trees) → meanings facts request ts ≡ meanings facts (without_slots request) (bound_trees request.slots ts)
    all_mean no_trees = refl
    all_mean (a_tree t ts) = rw (means t, all_mean ts) refl

-- leaves, once slots are bound to these entities
abbrev pub with_slots : LeafSettlings → Slots → LeafSettlings
with_slots around slots = record {
  variable = around.variable;
  unknown = around.unknown;
  slot = λ s. kindless (slot_outcome (slots s));
  in_context = around.in_context;
  has_in_context = around.has_in_context;
  variable_type = around.variable_type;
  untold = around.untold;
}

module _ (facts : Facts) (around : LeafSettlings) (slots : Slots) where
  slot_settles : (s : SlotId) (o : Option Uid) → kindless (slot_outcome o) ≡ settled_in facts (with_slots around no_slots) (bound_slot s o)
  slot_settles s (Some u) = refl
  slot_settles s None = refl

  slot_entry : (op : Operator) (s : SlotId) (o : Option Uid) (ts us : Trees) (x : Settling) →
      or_entry (with_slots around slots) op (a_tree (Slot s) ts) x ≡ or_entry (with_slots around no_slots) op (a_tree (bound_slot s o) us) x
  slot_entry (GetAttr a) s (Some u) ts us x = refl
  slot_entry (HasAttr a) s (Some u) ts us x = refl
  slot_entry (GetAttr a) s None ts us x = refl
  slot_entry (HasAttr a) s None ts us x = refl
  slot_entry op s o ts us x = refl

  linked_entry : (op : Operator) (ts : Trees) (x : Settling) → or_entry (with_slots around slots) op ts x ≡ or_entry (with_slots around no_slots) op (bound_trees slots ts) x
  linked_entry op no_trees x = refl
  linked_entry op (a_tree (Slot s) ts) x = slot_entry op s (slots s) ts (bound_trees slots ts) x
  linked_entry (GetAttr a) (a_tree (Var Context) no_trees) Open = refl
  linked_entry (GetAttr a) (a_tree (Var Context) no_trees) Errs = refl
  linked_entry (GetAttr a) (a_tree (Var Context) no_trees) (Is w) = refl
  linked_entry (GetAttr a) (a_tree (Var Context) (a_tree t ts)) x = refl
  linked_entry (GetAttr a) (a_tree (Var _) ts) x = refl
  linked_entry (GetAttr a) (a_tree _ ts) x = refl
  linked_entry (HasAttr a) (a_tree (Var Context) no_trees) Open = refl
  linked_entry (HasAttr a) (a_tree (Var Context) no_trees) Errs = refl
  linked_entry (HasAttr a) (a_tree (Var Context) no_trees) (Is w) = refl
  linked_entry (HasAttr a) (a_tree (Var Context) (a_tree t ts)) x = refl
  linked_entry (HasAttr a) (a_tree (Var _) ts) x = refl
  linked_entry (HasAttr a) (a_tree _ ts) x = refl
  linked_entry op (a_tree _ ts) x = refl

  slot_states : (s : SlotId) (o : Option Uid) → stated_in (with_slots around no_slots) (bound_slot s o) ≡ None
  slot_states s (Some u) = refl
  slot_states s None = refl

  states : (t : Tree) → stated_in (with_slots around no_slots) (bound_tree slots t) ≡ stated_in (with_slots around slots) t
  states (Slot s) = slot_states s (slots s)
  states (Var v) = refl
  states (Unknown n ty) = refl
  states _ = refl

  mutual
    pub settles : (t : Tree) → settled_in facts (with_slots around slots) t ≡ settled_in facts (with_slots around no_slots) (bound_tree slots t)
    settles (Lit l) = refl
    settles (Var v) = refl
    settles (Slot s) = slot_settles s (slots s)
    settles (Unknown n ty) = refl
    settles (If t y n) = rw (settles t, settles y, settles n) refl
    settles (And l r) = rw (settles l, settles r) refl
    settles (Or l r) = rw (settles l, settles r) refl
    settles (Apply op ts) =
        ap (or_type op (types_in facts (with_slots around slots) ts))
        (linked_entry op ts (apply_settled facts op (all_settled_in facts (with_slots around slots) ts)) ∙
        ap (λ xs. or_entry (with_slots around no_slots) op (bound_trees slots ts) (apply_settled facts op xs)) (all_settle ts))
        ∙ ap (λ (os : List (Option Name)). or_type op os (or_entry (with_slots around no_slots) op (bound_trees slots ts) (apply_settled facts op (all_settled_in facts (with_slots around no_slots) (bound_trees slots ts)))))
        (types_settle ts)

    pub all_settle : (ts : Trees) → all_settled_in facts (with_slots around slots) ts ≡ all_settled_in facts (with_slots around no_slots) (bound_trees slots ts)
    all_settle no_trees = refl
    all_settle (a_tree t ts) = rw (settles t, all_settle ts) refl

    types_settle : (ts : Trees) → types_in facts (with_slots around slots) ts ≡ types_in facts (with_slots around no_slots) (bound_trees slots ts)
    types_settle no_trees = refl
    types_settle (a_tree t ts) = rw (settles t, states t, types_settle ts) refl

pub linking_is_writing : LinkingIsWriting
linking_is_writing = record {
  means = means;
  settles = λ facts q slots told t. settles facts (settled_of facts q slots told) slots t;
}

-- ---- answers: what is left differs inside lazy operators alone

abbrev is_lazy : Tree → Bool
is_lazy (If t y n) = true
is_lazy (And l r) = true
is_lazy (Or l r) = true
is_lazy _ = false

abbrev BothLazy : Tree → Tree → Type 0
BothLazy s t = (is_lazy s ≡ true) × (is_lazy t ≡ true)

lazy_opaque : (t : Tree) → is_lazy t ≡ true → is_opaque t ≡ true
lazy_opaque (If t y n) h = refl
lazy_opaque (And l r) h = refl
lazy_opaque (Or l r) h = refl
lazy_opaque _ h = cc

both_opaque : (s t : Tree) → BothLazy s t → (is_opaque s ≡ true) × (is_opaque t ≡ true)
both_opaque s t (h, i) = (lazy_opaque s h, lazy_opaque t i)

module _ (facts : Facts) (q : Question) (slots : Slots) (told : Told) where
  abbrev linked : LeafAnswers
  linked = held_of facts q slots told

  abbrev written : LeafAnswers
  written = held_of facts q no_slots told

  slot_answer : (s : SlotId) (o : Option Uid) → SameBut BothLazy (answer_of (slot_outcome o)) (partial_in facts written (bound_slot s o))
  slot_answer s (Some u) = refl
  slot_answer s None = refl

  mutual
    one_answer : (t : Tree) → SameBut BothLazy (partial_in facts linked t) (partial_in facts written (bound_tree slots t))
    one_answer (Lit l) = refl
    one_answer (Var v) = same_itself facts BothLazy both_opaque (variable_held facts q told v)
    one_answer (Slot s) = slot_answer s (slots s)
    one_answer (Unknown n ty) = same_itself facts BothLazy both_opaque (linked.unknown n ty)
    one_answer (If t y n) =
        if_by facts BothLazy both_opaque (partial_in facts linked t) (partial_in facts written (bound_tree slots t))
        (partial_in facts linked y) (partial_in facts written (bound_tree slots y)) (partial_in facts linked n) (partial_in facts written (bound_tree slots n))
        y (bound_tree slots y) n (bound_tree slots n) (one_answer t) (one_answer y) (one_answer n) (λ r s k. differing (refl, refl))
    one_answer (And l r) =
        and_by facts BothLazy both_opaque (partial_in facts linked l) (partial_in facts written (bound_tree slots l))
        (partial_in facts linked r) (partial_in facts written (bound_tree slots r)) r (bound_tree slots r) (one_answer l) (one_answer r)
        (λ r s k. differing (refl, refl)) (λ r s k. differing (refl, refl))
    one_answer (Or l r) =
        or_by facts BothLazy both_opaque (partial_in facts linked l) (partial_in facts written (bound_tree slots l))
        (partial_in facts linked r) (partial_in facts written (bound_tree slots r)) r (bound_tree slots r) (one_answer l) (one_answer r)
        (λ r s k. differing (refl, refl)) (λ r s k. differing (refl, refl))
    one_answer (Apply op ts) =
        subst (λ b. SameBut BothLazy (apply_answer facts linked op (all_partial_in facts linked ts)) b)
        (applied_alike facts linked written (λ v. refl) (λ n ty. refl) op (all_partial_in facts written (bound_trees slots ts)))
        (apply_same facts BothLazy both_opaque linked op (all_partial_in facts linked ts) (all_partial_in facts written (bound_trees slots ts)) (all_one_answer ts))

    all_one_answer : (ts : Trees) → AllSameBut BothLazy (all_partial_in facts linked ts) (all_partial_in facts written (bound_trees slots ts))
    all_one_answer no_trees = refl
    all_one_answer (a_tree t ts) =
        next_same facts BothLazy both_opaque (partial_in facts linked t) (partial_in facts written (bound_tree slots t))
        (all_partial_in facts linked ts) (all_partial_in facts written (bound_trees slots ts)) (one_answer t) (all_one_answer ts)

  stand : (a b : Answer) → SameBut BothLazy a b → StandAlike a b
  stand (Evaluated v) b h = h
  stand (ResidualTree r) b h = (h.0, h.1)
  stand (Failed k) b h = h

-- ---- kinds

module _ (facts : Facts) (around : LeafSettlings) (slots : Slots) (Linked Written : Tree → Type 0) where
  abbrev LinkedErrs : Tree → Kind → Type 0
  LinkedErrs t k = ErrsAs facts (with_slots around slots) Linked t k

  abbrev WrittenErrs : Tree → Kind → Type 0
  WrittenErrs t k = ErrsAs facts (with_slots around no_slots) Written (bound_tree slots t) k

  module _ (forth : (t : Tree) → Linked t → Written (bound_tree slots t)) where
    slot_written : (s : SlotId) (o : Option Uid) → kindless (slot_outcome o) ≡ Errs → ErrsAs facts (with_slots around no_slots) Written (bound_slot s o) UnlinkedSlot
    slot_written s (Some u) e = cc
    slot_written s None e = unbound refl

    mutual
      pub to_written : {t : Tree} {k : Kind} → LinkedErrs t k → WrittenErrs t k
      to_written (unbound {s = s} e) = slot_written s (slots s) e
      to_written (and_left h) = and_left (to_written h)
      to_written (and_right {l = l} e h) = and_right (sym (settles facts around slots l) ∙ e) (to_written h)
      to_written (and_left_type {l = l} e n) = and_left_type (sym (settles facts around slots l) ∙ e) n
      to_written (and_right_type {l = l} {r = r} e f n) = and_right_type (sym (settles facts around slots l) ∙ e) (sym (settles facts around slots r) ∙ f) n
      to_written (or_left h) = or_left (to_written h)
      to_written (or_right {l = l} e h) = or_right (sym (settles facts around slots l) ∙ e) (to_written h)
      to_written (or_left_type {l = l} e n) = or_left_type (sym (settles facts around slots l) ∙ e) n
      to_written (or_right_type {l = l} {r = r} e f n) = or_right_type (sym (settles facts around slots l) ∙ e) (sym (settles facts around slots r) ∙ f) n
      to_written (if_test h) = if_test (to_written h)
      to_written (if_type {t = t} e n) = if_type (sym (settles facts around slots t) ∙ e) n
      to_written (if_then {t = t} e h) = if_then (sym (settles facts around slots t) ∙ e) (to_written h)
      to_written (if_else {t = t} e h) = if_else (sym (settles facts around slots t) ∙ e) (to_written h)
      to_written (operands h) = operands (first_to_written h)
      to_written (operator {ts = ts} e f) = operator (sym (all_settle facts around slots ts) ∙ e) f
      to_written (no_entry e) = no_entry e

      first_to_written : {ts : Trees} {k : Kind} → FirstErrsAs facts (with_slots around slots) Linked ts k →
          FirstErrsAs facts (with_slots around no_slots) Written (bound_trees slots ts) k
      first_to_written (here h) = here (to_written h)
      first_to_written (behind_value {t = t} e h) = behind_value (sym (settles facts around slots t) ∙ e) (first_to_written h)
      first_to_written (behind_open {t = t} e h) = behind_open (sym (settles facts around slots t) ∙ e) (first_to_written h)
      first_to_written (behind_erring {t = t} e f h) = behind_erring (sym (settles facts around slots t) ∙ e) (forth t f) (first_to_written h)

  module _ (back : (t : Tree) → Written (bound_tree slots t) → Linked t) where
    slot_linked : (s : SlotId) (o : Option Uid) {k : Kind} → slots s ≡ o → ErrsAs facts (with_slots around no_slots) Written (bound_slot s o) k → LinkedErrs (Slot s) k
    slot_linked s (Some u) is h = elim h [ ]
    slot_linked s None is (unbound e) = unbound (ap (λ o. kindless (slot_outcome o)) is)

    slot_never : (s : SlotId) (o : Option Uid) (us : Trees) → a_tree (bound_slot s o) us ≢ a_tree (Var Context) no_trees
    slot_never s (Some u) us h = cc
    slot_never s None us h = cc

    -- slots are bound to no context
    context_alone : (ts : Trees) → bound_trees slots ts ≡ a_tree (Var Context) no_trees → ts ≡ a_tree (Var Context) no_trees
    context_alone no_trees h = cc
    context_alone (a_tree (Slot s) ts) h = absurd (slot_never s (slots s) (bound_trees slots ts) h)
    context_alone (a_tree (Var v) no_trees) h = h
    context_alone (a_tree (Var v) (a_tree t ts)) h = cc
    context_alone (a_tree _ ts) h = cc

    abbrev FirstWrittenErrs : Trees → Kind → Type 0
    FirstWrittenErrs us k = FirstErrsAs facts (with_slots around no_slots) Written us k

    applied_linked : {op : Operator} (ts : Trees) {us : Trees} {k : Kind} →
        ((j : Kind) → FirstWrittenErrs (bound_trees slots ts) j → FirstErrsAs facts (with_slots around slots) Linked ts j) →
        bound_trees slots ts ≡ us → ErrsAs facts (with_slots around no_slots) Written (Apply op us) k → LinkedErrs (Apply op ts) k
    applied_linked ts first is (operands {k = k} h) = operands (first k (subst (λ us. FirstWrittenErrs us k) (sym is) h))
    applied_linked ts first is (operator e f) = operator (all_settle facts around slots ts ∙ ap (all_settled_in facts (with_slots around no_slots)) is ∙ e) f
    applied_linked ts first is (no_entry {a = a} e) = subst (λ us. LinkedErrs (Apply (GetAttr a) us) RecordAttrDoesNotExist) (sym (context_alone ts is)) (no_entry e)

    mutual
      pub to_linked : (t : Tree) {k : Kind} → WrittenErrs t k → LinkedErrs t k
      to_linked (Lit l) h = elim h [ ]
      to_linked (Var v) h = elim h [ ]
      to_linked (Unknown n ty) h = elim h [ ]
      to_linked (Slot s) h = slot_linked s (slots s) refl h
      to_linked (And l r) (and_left h) = and_left (to_linked l h)
      to_linked (And l r) (and_right e h) = and_right (settles facts around slots l ∙ e) (to_linked r h)
      to_linked (And l r) (and_left_type e n) = and_left_type (settles facts around slots l ∙ e) n
      to_linked (And l r) (and_right_type e f n) = and_right_type (settles facts around slots l ∙ e) (settles facts around slots r ∙ f) n
      to_linked (Or l r) (or_left h) = or_left (to_linked l h)
      to_linked (Or l r) (or_right e h) = or_right (settles facts around slots l ∙ e) (to_linked r h)
      to_linked (Or l r) (or_left_type e n) = or_left_type (settles facts around slots l ∙ e) n
      to_linked (Or l r) (or_right_type e f n) = or_right_type (settles facts around slots l ∙ e) (settles facts around slots r ∙ f) n
      to_linked (If t y n) (if_test h) = if_test (to_linked t h)
      to_linked (If t y n) (if_type e i) = if_type (settles facts around slots t ∙ e) i
      to_linked (If t y n) (if_then e h) = if_then (settles facts around slots t ∙ e) (to_linked y h)
      to_linked (If t y n) (if_else e h) = if_else (settles facts around slots t ∙ e) (to_linked n h)
      to_linked (Apply op ts) h = applied_linked ts (λ j g. first_to_linked ts g) refl h

      first_to_linked : (ts : Trees) {k : Kind} → FirstWrittenErrs (bound_trees slots ts) k → FirstErrsAs facts (with_slots around slots) Linked ts k
      first_to_linked no_trees h = elim h [ ]
      first_to_linked (a_tree t ts) (here h) = here (to_linked t h)
      first_to_linked (a_tree t ts) (behind_value e h) = behind_value (settles facts around slots t ∙ e) (first_to_linked ts h)
      first_to_linked (a_tree t ts) (behind_open e h) = behind_open (settles facts around slots t ∙ e) (first_to_linked ts h)
      first_to_linked (a_tree t ts) (behind_erring e f h) = behind_erring (settles facts around slots t ∙ e) (back t f) (first_to_linked ts h)

-- ---- a question

module _ (Passes : Text → Option ValueType → Type 0) (slots : Slots) where
  slot_passes : (s : SlotId) (o : Option Uid) → ◌≡◌ {A = Type 0} (EachUnknown Passes (bound_slot s o)) (Unit {0})
  slot_passes s (Some u) = refl
  slot_passes s None = refl

  mutual
    passing : (t : Tree) → ◌≡◌ {A = Type 0} (EachUnknown Passes (bound_tree slots t)) (EachUnknown Passes t)
    passing (Lit l) = refl
    passing (Var v) = refl
    passing (Slot s) = slot_passes s (slots s)
    passing (Unknown n ty) = refl
    passing (If t y n) = rw (passing t, passing y, passing n) refl
    passing (And l r) = rw (passing l, passing r) refl
    passing (Or l r) = rw (passing l, passing r) refl
    passing (Apply op ts) = all_passing ts

    all_passing : (ts : Trees) → ◌≡◌ {A = Type 0} (EachUnknownOf Passes (bound_trees slots ts)) (EachUnknownOf Passes ts)
    all_passing no_trees = refl
    all_passing (a_tree t ts) = rw (passing t, all_passing ts) refl

module _ (facts : Facts) (q : Question) (slots : Slots) (told : Told) where
  everywhere_written : (t : Tree) → ErrsEverywhere facts q slots told t → ErrsEverywhere facts q no_slots told (bound_tree slots t)
  everywhere_written t h filling known extends fills given =
      sym (settles facts (filled facts q no_slots filling) slots t) ∙ h filling known extends fills (subst (λ (T : Type 0). T) (passing (IsGiven filling) slots t) given)

  everywhere_linked : (t : Tree) → ErrsEverywhere facts q no_slots told (bound_tree slots t) → ErrsEverywhere facts q slots told t
  everywhere_linked t h filling known extends fills given =
      settles facts (filled facts q no_slots filling) slots t ∙ h filling known extends fills (subst (λ (T : Type 0). T) (sym (passing (IsGiven filling) slots t)) given)

  kinds_are_one : (t : Tree) (k : Kind) →
      ErrsAs facts (settled_of facts q slots told) (ErrsEverywhere facts q slots told) t k ↔
      ErrsAs facts (settled_of facts q no_slots told) (ErrsEverywhere facts q no_slots told) (bound_tree slots t) k
  kinds_are_one t k = (
    (λ h. to_written facts (settled_of facts q no_slots told) slots (ErrsEverywhere facts q slots told) (ErrsEverywhere facts q no_slots told) everywhere_written h),
    (λ h. to_linked facts (settled_of facts q no_slots told) slots (ErrsEverywhere facts q slots told) (ErrsEverywhere facts q no_slots told) everywhere_linked t h),
  )

pub linking_is_writing_early : LinkingIsWritingEarly
linking_is_writing_early = record {
  answers = λ facts q slots told t. stand facts q slots told (partial_in facts (held_of facts q slots told) t) (partial_in facts (held_of facts q no_slots told) (bound_tree slots t)) (one_answer facts q slots told t);
  kinds = kinds_are_one;
}
