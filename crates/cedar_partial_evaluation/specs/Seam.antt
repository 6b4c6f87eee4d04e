-- What later values settle of a residual.
use Rattle.std.specs.Prelude.{◌≡◌, ◌≢◌, true, Option, Some}
use Rattle.cedar_language.specs.Uid.{Text, Name}
use Rattle.cedar_language.specs.Tree.{GetAttr, HasAttr, Variable, Context, SlotId, Tree, ValueType, EntityType}
use Rattle.cedar_language.specs.Value.{Value, no_values}
use Rattle.cedar_language.specs.Facts.{Facts}
use Rattle.cedar_partial_evaluation.specs.Settling.{LeafSettlings, Errs, Is, Below, settled_in}
use Rattle.cedar_partial_evaluation.specs.MadeAgain.{HoldsMade}
use Rattle.cedar_partial_evaluation.specs.Partial.{AllEvaluated, LeafAnswers, and_next, apply_answer, partial_in}
use Rattle.cedar_partial_evaluation.specs.Fair.{IsOfType, IsStated, AreMadeLeaves, read}

-- `later` is what is settled of the leaves once more values are told than `holds` knows of, and `around` the same of what was left
pub record CarriesTo (facts : Facts) (later around : LeafSettlings) (holds : LeafAnswers) : Type 0 where
  pub variable : (v : Variable) → Below (later.variable v) (read facts around (holds.variable v))
  pub never_errs : (v : Variable) → later.variable v ≢ Errs
  pub unknown : (n : Text) (ty : Option ValueType) → Below (later.unknown n ty) (read facts around (holds.unknown n ty))
  pub name_never_errs : (n : Text) (ty : Option ValueType) → later.unknown n ty ≢ Errs
  pub typed : (n : Text) (ty : Name) (v : Value) → later.unknown n (Some (EntityType ty)) ≡ Is v → IsOfType ty v
  pub slot : (s : SlotId) → Below (later.slot s) (read facts around (holds.slot s))
  pub in_context : (a : Text) → Below (later.in_context a) (read facts around (apply_answer facts holds (GetAttr a) (and_next facts (holds.variable Context) (AllEvaluated no_values))))
  pub has_in_context : (a : Text) → Below (later.has_in_context a) (read facts around (apply_answer facts holds (HasAttr a) (and_next facts (holds.variable Context) (AllEvaluated no_values))))
  pub variable_type : (v : Variable) (ty : Name) → later.variable_type v ≡ Some ty → IsStated around (holds.variable v) ty
  pub untold : (n : Text) (ty : Name) → later.untold n ≡ true → IsStated around (holds.unknown n (Some (EntityType ty))) ty

-- what was left is read as the tree was (where slots are no longer bound: UnboundSeam)
abbrev pub Carries : Facts → LeafSettlings → LeafAnswers → Type 0
Carries facts later holds = CarriesTo facts later later holds

-- once more values are told, what an answer left settles, kinds aside, wherever its tree does
abbrev pub ResidualsSettle : Type 0
ResidualsSettle =
    (facts : Facts) → HoldsMade facts → (later : LeafSettlings) (holds : LeafAnswers) → Carries facts later holds → AreMadeLeaves facts holds → (t : Tree) →
    Below (settled_in facts later t) (read facts later (partial_in facts holds t))
