-- The answer to a question that was just asked stands by how each policy in force stands.
use Rattle.std.specs.Prelude.{◌≡◌, true, Some, List}
use Rattle.std.specs.FinMap as map
use Rattle.cedar_language.specs.Uid.{Text}
use Rattle.cedar_language.specs.Facts.{Facts}
use Rattle.cedar_language.specs.Answering.{Judged}
use Rattle.cedar_language.specs.Authorization.{Known}
use Rattle.cedar_partial_evaluation.specs.MadeAgain.{HoldsMade}
use Rattle.cedar_partial_evaluation.specs.Mentions.{mentions_only}
use Rattle.cedar_partial_evaluation.specs.Question.{IsAccepted}
pub use Rattle.cedar_partial_evaluation.specs.Waiting.{IsData}
use Rattle.cedar_world.specs.Answer.{Answer}
use Rattle.cedar_grammar.specs.Syntax.{PolicySyntax, condition}
use Rattle.cedar_world.specs.World.{World, in_force_at}
use Rattle.cedar_world.specs.Asking.{Question}
use Rattle.cedar_world.specs.Question.{IsKnown}
use Rattle.cedar_world.specs.Setting.{Setting}
use Rattle.cedar_world.specs.Fillings.{IsFilling}
use Rattle.cedar_world.specs.Step.{IsFirstAnswer}
use Rattle.cedar_world.specs.Standing.{StandsSoFar, StandsEarly, Judges, Says}
use Rattle.cedar_world.specs.WorldFacts.{AreFactsOf}

-- where nothing is unknown, the context means a value
abbrev pub HasRequest : Setting → Question → Type 0
HasRequest by q = IsKnown q → (request : Known) × IsFilling by q map.empty request

-- no condition in force names an unknown
abbrev pub NamesNoUnknown : World → Type 0
NamesNoUnknown world = (id : Text) (s : PolicySyntax) → in_force_at world.policies id ≡ Some s → mentions_only (λ v. true) true (condition s) ≡ true

-- What the rules say of the policies in force is a first answer, where each stands as what is settled of its condition says ..
abbrev pub FirstAnswersStand : Type 0
FirstAnswersStand =
    (by : Setting) (world : World) (facts : Facts) (q : Question) (js : List Judged) (answer : Answer)
    → AreFactsOf by world facts → NamesNoUnknown world → IsData q.context → HasRequest by q
    → Judges world (StandsSoFar facts q map.empty) js → Says js answer → IsFirstAnswer by world q answer

-- .. and where each stands as an evaluation of its condition says, for which the context was evaluated first.
abbrev pub EarlyAnswersStand : Type 0
EarlyAnswersStand =
    (by : Setting) (world : World) (facts : Facts) (q : Question) (js : List Judged) (answer : Answer)
    → AreFactsOf by world facts → HoldsMade facts → NamesNoUnknown world → IsData q.context → HasRequest by q → IsAccepted facts map.empty q.context
    → Judges world (StandsEarly facts q map.empty) js → Says js answer → IsFirstAnswer by world q answer
