-- Fillings of a question that conform to a schema, and what valid policies come to under each.
use Rattle.std.specs.Prelude.{◌≡◌, ◌≢◌}
use Rattle.cedar_language.specs.Value.{Kind}
use Rattle.cedar_language.specs.Facts.{Facts}
use Rattle.cedar_language.specs.Meaning.{Slots}
use Rattle.cedar_language.specs.Answering.{Satisfied, Erring}
use Rattle.cedar_language.specs.Authorization.{Policy, Known}
use Rattle.cedar_typing.specs.Schema.{Schema, Environment, SlotTypes, IsEnvironment}
use Rattle.cedar_typing.specs.Conforming.{Conforms, IsRequestOf}
use Rattle.cedar_typing.specs.Validated.{TypesAllow, IsValid, IsImpossibleIn}
use Rattle.cedar_partial_evaluation.specs.Question.{Question, Told}
use Rattle.cedar_partial_evaluation.specs.Filling.{IsFilling, request_filled}
use Rattle.cedar_partial_evaluation.specs.Early.{judged_filled}

-- values that fill the question, and make a request of the environment of it
pub record IsConformingFilling (schema : Schema) (may : SlotTypes) (facts : Facts) (q : Question) (slots : Slots) (filling : Told) (known : Known)
    : Type 0 where
  pub fills : IsFilling facts q filling known
  pub environment : Environment
  pub is_environment : IsEnvironment schema may environment
  pub is_request : IsRequestOf environment (request_filled known slots filling)

-- a condition that is never true by type in each environment
abbrev pub IsImpossible : Schema → SlotTypes → Policy → Type 0
IsImpossible schema may p = (e : Environment) → IsEnvironment schema may e → IsImpossibleIn e p.condition

-- under each such filling a valid policy errs by a kind that types don't rule out, if it errs
abbrev pub FilledPoliciesStand : Type 0
FilledPoliciesStand =
    (schema : Schema) (facts : Facts) → Conforms schema facts → (may : SlotTypes) (p : Policy) → IsValid schema may p.condition →
    (q : Question) (filling : Told) (known : Known) → IsConformingFilling schema may facts q p.slots filling known →
    (k : Kind) → (judged_filled facts known filling p).standing ≡ Erring k → TypesAllow k

-- and one that is impossible is satisfied under none
abbrev pub FilledImpossiblesAreNeverSatisfied : Type 0
FilledImpossiblesAreNeverSatisfied =
    (schema : Schema) (facts : Facts) → Conforms schema facts → (may : SlotTypes) (p : Policy) → IsImpossible schema may p →
    (q : Question) (filling : Told) (known : Known) → IsConformingFilling schema may facts q p.slots filling known →
    (judged_filled facts known filling p).standing ≢ Satisfied
