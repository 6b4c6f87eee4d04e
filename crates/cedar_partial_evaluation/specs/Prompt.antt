-- Kinds of errors to which a tree settles, and what a prompt answer gives.
use Rattle.std.specs.Prelude.{◌≡◌, ◌≢◌, true, false, Option, Some}
use Rattle.cedar_language.specs.Uid.{Text, Name}
use Rattle.cedar_language.specs.Tree.{Boolean, Variable, Context, SlotId, Operator, GetAttr, HasAttr, Tree, Var, Slot, If, And, Or, Apply, Trees, no_trees, a_tree, ValueType, EntityType}
use Rattle.cedar_language.specs.Value.{Value, Plain, Values, no_values, Kind, TypeError, RecordAttrDoesNotExist, UnlinkedSlot, Fails}
use Rattle.cedar_language.specs.Facts.{Facts}
use Rattle.cedar_language.specs.Operators.{applied}
use Rattle.cedar_language.specs.Means.{IsNotBoolean}
use Rattle.cedar_language.specs.Meaning.{Request, meaning}
use Rattle.cedar_partial_evaluation.specs.Settling.{Settling, Open, Errs, Is, AllAre, LeafSettlings, Below, settled_in, all_settled_in, leaf_settlings_of}
use Rattle.cedar_partial_evaluation.specs.MadeAgain.{HoldsMade}
use Rattle.cedar_partial_evaluation.specs.Partial.{Answer, Evaluated, ResidualTree, Failed, AllEvaluated, LeafAnswers, and_next, apply_answer, partial_in, leaf_answers_of}
use Rattle.cedar_partial_evaluation.specs.Fair.{IsStated, AreMadeLeaves}

abbrev pub true_value : Value
true_value = Plain (Boolean true)

abbrev pub false_value : Value
false_value = Plain (Boolean false)

-- `ErrsAs .. t k`: the tree settles to the error k; `everywhere t`: t errs in every filling
module _ (facts : Facts) (around : LeafSettlings) (everywhere : Tree → Type 0) where
  mutual
    pub data ErrsAs : Tree → Kind → Type 0 where
      unbound : {s : SlotId} → around.slot s ≡ Errs → ErrsAs (Slot s) UnlinkedSlot
      and_left : {l r : Tree} {k : Kind} → ErrsAs l k → ErrsAs (And l r) k
      and_right : {l r : Tree} {k : Kind} → settled_in facts around l ≡ Is true_value → ErrsAs r k → ErrsAs (And l r) k
      and_left_type : {l r : Tree} {v : Value} → settled_in facts around l ≡ Is v → IsNotBoolean v →
          ErrsAs (And l r) TypeError
      and_right_type : {l r : Tree} {v : Value} → settled_in facts around l ≡ Is true_value →
          settled_in facts around r ≡ Is v → IsNotBoolean v → ErrsAs (And l r) TypeError
      or_left : {l r : Tree} {k : Kind} → ErrsAs l k → ErrsAs (Or l r) k
      or_right : {l r : Tree} {k : Kind} → settled_in facts around l ≡ Is false_value → ErrsAs r k → ErrsAs (Or l r) k
      or_left_type : {l r : Tree} {v : Value} → settled_in facts around l ≡ Is v → IsNotBoolean v →
          ErrsAs (Or l r) TypeError
      or_right_type : {l r : Tree} {v : Value} → settled_in facts around l ≡ Is false_value →
          settled_in facts around r ≡ Is v → IsNotBoolean v → ErrsAs (Or l r) TypeError
      if_test : {t y n : Tree} {k : Kind} → ErrsAs t k → ErrsAs (If t y n) k
      if_type : {t y n : Tree} {v : Value} → settled_in facts around t ≡ Is v → IsNotBoolean v →
          ErrsAs (If t y n) TypeError
      if_then : {t y n : Tree} {k : Kind} → settled_in facts around t ≡ Is true_value → ErrsAs y k → ErrsAs (If t y n) k
      if_else : {t y n : Tree} {k : Kind} → settled_in facts around t ≡ Is false_value → ErrsAs n k →
          ErrsAs (If t y n) k
      operands : {op : Operator} {ts : Trees} {k : Kind} → FirstErrsAs ts k → ErrsAs (Apply op ts) k
      operator : {op : Operator} {ts : Trees} {vs : Values} {k : Kind} → all_settled_in facts around ts ≡ AllAre vs →
          applied facts op vs ≡ Fails k → ErrsAs (Apply op ts) k
      no_entry : {a : Text} → around.in_context a ≡ Errs →
          ErrsAs (Apply (GetAttr a) (a_tree (Var Context) no_trees)) RecordAttrDoesNotExist

    -- the first operand that settles to an error, open ones passed over; behind one that errs everywhere any kind
    pub data FirstErrsAs : Trees → Kind → Type 0 where
      here : {t : Tree} {ts : Trees} {k : Kind} → ErrsAs t k → FirstErrsAs (a_tree t ts) k
      behind_value : {t : Tree} {ts : Trees} {v : Value} {k : Kind} → settled_in facts around t ≡ Is v →
          FirstErrsAs ts k → FirstErrsAs (a_tree t ts) k
      behind_open : {t : Tree} {ts : Trees} {k : Kind} → settled_in facts around t ≡ Open → FirstErrsAs ts k →
          FirstErrsAs (a_tree t ts) k
      behind_erring : {t : Tree} {ts : Trees} {k l : Kind} → settled_in facts around t ≡ Open → everywhere t →
          FirstErrsAs ts k → FirstErrsAs (a_tree t ts) l

abbrev pub without_kind : Answer → Settling
without_kind (Evaluated v) = Is v
without_kind (ResidualTree r) = Open
without_kind (Failed k) = Errs

-- an answer that is a result to which the tree settles, where there is one
abbrev pub Meets : (Kind → Type 0) → Settling → Answer → Type 0
Meets errs_as Open p = Unit {0}
Meets errs_as Errs p = (k : Kind) × (p ≡ Failed k) × errs_as k
Meets errs_as (Is v) p = p ≡ Evaluated v

-- what is settled of a leaf is held for it
pub record Shows (facts : Facts) (around : LeafSettlings) (holds : LeafAnswers) : Type 0 where
  pub variable : (v : Variable) → Below (around.variable v) (without_kind (holds.variable v))
  pub never_errs : (v : Variable) → around.variable v ≢ Errs
  pub unknown : (n : Text) (ty : Option ValueType) → Below (around.unknown n ty) (without_kind (holds.unknown n ty))
  pub name_never_errs : (n : Text) (ty : Option ValueType) → around.unknown n ty ≢ Errs
  pub slot : (s : SlotId) → Meets (λ k. k ≡ UnlinkedSlot) (around.slot s) (holds.slot s)
  pub in_context : (a : Text) → Meets (λ k. k ≡ RecordAttrDoesNotExist) (around.in_context a) (apply_answer facts holds (GetAttr a) (and_next facts (holds.variable Context) (AllEvaluated no_values)))
  pub has_in_context : (a : Text) → (around.has_in_context a ≢ Errs) × Below (around.has_in_context a) (without_kind (apply_answer facts holds (HasAttr a) (and_next facts (holds.variable Context) (AllEvaluated no_values))))
  pub variable_type : (v : Variable) (ty : Name) → around.variable_type v ≡ Some ty → IsStated around (holds.variable v) ty
  pub untold : (n : Text) (ty : Name) → around.untold n ≡ true → IsStated around (holds.unknown n (Some (EntityType ty))) ty

-- what is held suffices for the tree to be refused
abbrev pub IsRefused : Facts → LeafAnswers → Tree → Type 0
IsRefused facts holds t = (k : Kind) × (partial_in facts holds t ≡ Failed k)

-- every answer is a result to which its tree settles, where there is one
abbrev pub IsPrompt : Type 0
IsPrompt =
    (facts : Facts) → HoldsMade facts → (around : LeafSettlings) (holds : LeafAnswers) → Shows facts around holds → AreMadeLeaves facts holds → (t : Tree) →
    Meets (ErrsAs facts around (IsRefused facts holds) t) (settled_in facts around t) (partial_in facts holds t)

-- where everything is known, the kind to which a tree settles is the kind that it means
abbrev pub KindsAreMeant : Type 0
KindsAreMeant =
    (facts : Facts) (request : Request) (t : Tree) (k : Kind) → ErrsAs facts (leaf_settlings_of request) (IsRefused facts (leaf_answers_of request)) t k → meaning facts request t ≡ Fails k
