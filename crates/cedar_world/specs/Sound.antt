-- Ways in which policies stand to a question once values are told, which stay true whatever is told besides.
use Rattle.std.specs.Prelude.{◌≡◌, ◌⊎◌, false, Some}
use Rattle.cedar_language.specs.Uid.{Text}
use Rattle.cedar_language.specs.Value.{Kind, Outcome}
use Rattle.cedar_language.specs.Facts.{Facts}
use Rattle.cedar_language.specs.Answering.{Standing, Erring, is_residual, ComesTo, StillErrs}
use Rattle.cedar_language.specs.Authorization.{Known, standing_of}
use Rattle.cedar_partial_evaluation.specs.Filling as early
use Rattle.cedar_partial_evaluation.specs.Question.{Extends, AreMadeTold, IsAccepted}
use Rattle.cedar_grammar.specs.Syntax.{PolicySyntax, condition}
use Rattle.cedar_world.specs.World.{World, in_force_at}
use Rattle.cedar_world.specs.Asking.{Question, Told}
use Rattle.cedar_world.specs.Setting.{Setting, functions_alone, means, Settles}

-- what a standing comes to, and what erred still errs
abbrev pub Becomes : Standing → Standing → Type 0
Becomes s t = ComesTo s t × StillErrs s t

-- it errs, or the policy erred when the question was asked
abbrev pub ErrsOrErred : Standing → Type 0 → Type 0
ErrsOrErred standing Erred = ((l : Kind) × (standing ≡ Erring l)) ⊎ Erred

module _ (by : Setting) (world : World) (facts : Facts) (q : Question) (told : Told) where
  -- the policy erred first where this says so; it needn't err any more then
  pub record IsSoundLater (Stands : PolicySyntax → Standing → Type 0) (ErredFirst : PolicySyntax → Type 0) : Type 0 where
    -- it holds under each filling that keeps what is told
    pub fair : (id : Text) (s : PolicySyntax) → in_force_at world.policies id ≡ Some s → (standing : Standing) → Stands s standing
        → (filling : Told) (request : Known) → Extends told filling → early.IsFilling (functions_alone by.functions) q filling request → Becomes standing (standing_of (means facts request (condition s)))
    -- it holds of what is settled once more is told
    pub carried : (later : Told) → Extends told later → AreMadeTold facts later → IsAccepted facts later q.context
        → (id : Text) (s : PolicySyntax) → in_force_at world.policies id ≡ Some s → (result : Outcome) → Settles facts q later (condition s) result → (standing : Standing) → Stands s standing → Becomes standing (standing_of result)
    -- what is settled now is not left open
    pub sharp : (id : Text) (s : PolicySyntax) → in_force_at world.policies id ≡ Some s → (result : Outcome) → Settles facts q told (condition s) result → (standing : Standing) → Stands s standing
        → (is_residual standing ≡ false) × ((k : Kind) → standing_of result ≡ Erring k → ErrsOrErred standing (ErredFirst s))
    -- once all is told, nothing is left open
    pub exact : (id : Text) (s : PolicySyntax) → in_force_at world.policies id ≡ Some s → (standing : Standing) → Stands s standing
        → (request : Known) → early.IsFilling (functions_alone by.functions) q told request
        → (is_residual standing ≡ false) × ((k : Kind) → standing_of (means facts request (condition s)) ≡ Erring k → ErrsOrErred standing (ErredFirst s))
