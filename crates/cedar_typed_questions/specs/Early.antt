-- What is settled, and answered, of valid policies while parts of a question are unknown, beside what they mean under fillings that conform.
use Rattle.std.specs.Prelude.{◌≡◌, ◌≢◌, Bool}
use Rattle.cedar_language.specs.Tree.{Boolean}
use Rattle.cedar_language.specs.Value.{Value, Plain, Kind, Outcome, Gives, Fails}
use Rattle.cedar_language.specs.Facts.{Facts}
use Rattle.cedar_language.specs.Meaning.{meaning}
use Rattle.cedar_language.specs.Answering.{Satisfied}
use Rattle.cedar_language.specs.Authorization.{Policy, Known}
use Rattle.cedar_typing.specs.Schema.{Schema, SlotTypes}
use Rattle.cedar_typing.specs.Conforming.{Conforms}
use Rattle.cedar_typing.specs.Validated.{TypesAllow, IsValid, IsBooleanOrAllowed}
use Rattle.cedar_partial_evaluation.specs.Settling.{Settling, Open, Errs, Is, LeafSettlings, settled_in}
use Rattle.cedar_partial_evaluation.specs.MadeAgain.{HoldsMade}
use Rattle.cedar_partial_evaluation.specs.Partial.{Answer, Evaluated, ResidualTree, Failed, partial_in}
use Rattle.cedar_partial_evaluation.specs.Question.{Question, Told, settled_of, held_of, Extends, AreMadeTold, IsAccepted}
use Rattle.cedar_partial_evaluation.specs.Filling.{GivesEach, filled, request_filled}
use Rattle.cedar_partial_evaluation.specs.Early.{judged_early}
use Rattle.cedar_typed_questions.specs.Filled.{IsConformingFilling, IsImpossible}

-- a Boolean, which the outcome gives
abbrev pub GivesBoolean : Value → Outcome → Type 0
GivesBoolean v o = (b : Bool) × (v ≡ Plain (Boolean b)) × (o ≡ Gives v)

-- the outcome is an error of a kind that types don't rule out
abbrev pub FailsAsAllowed : Outcome → Type 0
FailsAsAllowed o = (k : Kind) × TypesAllow k × (o ≡ Fails k)

-- what is settled is a Boolean, which is meant, or an error, where an allowed one is meant
abbrev pub SettlesByType : Settling → Outcome → Type 0
SettlesByType Open o = IsBooleanOrAllowed o
SettlesByType (Is v) o = GivesBoolean v o
SettlesByType Errs o = FailsAsAllowed o

-- what is left of a condition settles to the Boolean that is meant, or errs where an allowed error is meant
abbrev pub LeavesByType : Settling → Outcome → Type 0
LeavesByType s (Gives v) = (b : Bool) × (v ≡ Plain (Boolean b)) × (s ≡ Is v)
LeavesByType s (Fails k) = TypesAllow k × (s ≡ Errs)

-- an answer likewise
abbrev pub AnswersByType : Facts → LeafSettlings → Answer → Outcome → Type 0
AnswersByType facts around (Evaluated v) o = GivesBoolean v o
AnswersByType facts around (ResidualTree r) o = LeavesByType (settled_in facts around r) o
AnswersByType facts around (Failed k) o = FailsAsAllowed o

-- a filling that keeps what is told, and gives each unknown of the condition a value
pub record Completes (told filling : Told) (p : Policy) : Type 0 where
  pub keeps : Extends told filling
  pub gives : GivesEach filling p.condition

-- what is settled of a valid condition
abbrev pub ValidPoliciesSettleByType : Type 0
ValidPoliciesSettleByType =
    (schema : Schema) (facts : Facts) → Conforms schema facts → HoldsMade facts → (may : SlotTypes) (p : Policy) → IsValid schema may p.condition →
    (q : Question) (told filling : Told) (known : Known) → AreMadeTold facts told → IsAccepted facts told q.context → Completes told filling p →
    IsConformingFilling schema may facts q p.slots filling known →
    SettlesByType (settled_in facts (settled_of facts q p.slots told) p.condition) (meaning facts (request_filled known p.slots filling) p.condition)

-- what is answered of it, and what is left of it where it has no answer yet
abbrev pub ValidPoliciesAreAnsweredByType : Type 0
ValidPoliciesAreAnsweredByType =
    (schema : Schema) (facts : Facts) → Conforms schema facts → HoldsMade facts → (may : SlotTypes) (p : Policy) → IsValid schema may p.condition →
    (q : Question) (told filling : Told) (known : Known) → AreMadeTold facts told → Completes told filling p →
    IsConformingFilling schema may facts q p.slots filling known →
    AnswersByType facts (filled facts q p.slots filling) (partial_in facts (held_of facts q p.slots told) p.condition)
    (meaning facts (request_filled known p.slots filling) p.condition)

-- a policy that is impossible isn't satisfied early either, where some filling conforms
abbrev pub ImpossiblePoliciesAreNotSatisfiedEarly : Type 0
ImpossiblePoliciesAreNotSatisfiedEarly =
    (schema : Schema) (facts : Facts) → Conforms schema facts → HoldsMade facts → (may : SlotTypes) (p : Policy) → IsImpossible schema may p →
    (q : Question) (told filling : Told) (known : Known) → AreMadeTold facts told → Completes told filling p →
    IsConformingFilling schema may facts q p.slots filling known →
    (judged_early facts q told p).standing ≢ Satisfied
