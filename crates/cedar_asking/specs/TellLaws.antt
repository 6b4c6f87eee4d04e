-- What a response that is taken up again, once more is told, says of the question.
use Rattle.std.specs.Prelude.{◌≡◌, ℕ, true, false, Ok, Err, List, []}
use Rattle.std.specs.declared.alloc.Global.{Global}
use Rattle.std.specs.declared.rc.RcStr.{RcStr}
use Rattle.cedar_language.specs.Uid.{Text}
use Rattle.cedar_language.specs.Value.{Value}
use Rattle.cedar_partial_evaluation.specs.Question.{Extends}
use Rattle.cedar_world.specs.Answer.{Answer}
use Rattle.cedar_world.specs.Asking.{Question}
use Rattle.cedar_world.specs.Bodies.{Fields}
use Rattle.cedar_world.specs.Setting.{Setting}
use Rattle.cedar_world.specs.Heights.{Heights, AreHeights, SomeGrowsTooHigh, ContextIsTooHigh}
use Rattle.cedar_world.specs.Question.{HasOpenContext}
use Rattle.cedar_world.specs.Step.{IsLaterAnswer, SomeInForce}
use Rattle.cedar_world.specs.Values.{context_errs}
use Rattle.cedar_world.specs.World.{World}
use Rattle.cedar_world.specs.WorldFacts.{facts_of}
use Rattle.cedar_world.specs.Again.{StandsAgain}
use Rattle.cedar_world.specs.Joined.{IsJoined}
use Rattle.cedar_world.specs.Lookups.{ListsStanding}
use Rattle.cedar_entities.specs.declared.store.Entities.{Entities}
use Rattle.cedar_extensions.specs.Failures.{Failure, OfKind, LimitMet, failure_of}
use Rattle.cedar_extensions.specs.Table.{Table}
use Rattle.cedar_evaluator.specs.Asking.{untold}
use Rattle.cedar_policy_set.specs.Entries.{Entries, IsWhole}
use Rattle.cedar_replies.specs.declared.error_kind.ErrorKind.{ErrorKind}
use Rattle.cedar_requests.specs.Holding.{RequestParts}
use Rattle.cedar_held.specs.Built.{GivesBuilt}
use Rattle.cedar_evaluator.specs.Authorizing.{RespondsWithoutFalse}
use Rattle.cedar_evaluator.specs.Holding.{holding_in}
use Rattle.cedar_evaluator.specs.Reauthorizing.{Reauthorizes}
use Rattle.cedar_evaluator.specs.declared.errors.ConcretizationError.TheVariants as concretization
use Rattle.cedar_evaluator.specs.declared.errors.ReauthorizationError.{ReauthorizationError}
use Rattle.cedar_evaluator.specs.declared.errors.ReauthorizationError.TheVariants as reauthorization
use Rattle.cedar_evaluator.specs.declared.partial_response.PartialResponse.{PartialResponse}
use Rattle.cedar_asking.specs.Answering.{AreOf}
use Rattle.cedar_asking.specs.Erring.{SomeAtLimit}
use Rattle.cedar_asking.specs.Keeping.{IsNamed, AreTold, KeepsQuestion}
use Rattle.cedar_asking.specs.Laws.{SaysHeld}
use Rattle.cedar_telling.specs.Requests.{IsRequestOf}
use Rattle.cedar_telling.specs.Tells.{told_in, TellMore}
use Rattle.cedar_asking.specs.Waiting.{LeftIsUntold}

-- values told besides others are told with these
abbrev pub MoreIsTold : Type 0
MoreIsTold =
    (by : Setting) (q : Question) (old all : List (RcStr Global × Value)) (fs : Fields)
    → AreTold q old → TellMore by q (told_in old) fs (told_in all)
    → AreTold q all × Extends (told_in old) (told_in all)

-- a question that was just asked is kept, where no limit was met
abbrev pub QuestionsAreKept : Type 0
QuestionsAreKept =
    (by : Setting) (world : World) (q : Question) (es : Entries) (s : Entities) (table : Table) (depth : ℕ) (r : RequestParts) (first : PartialResponse) (listed : List (Text × ErrorKind)) (answer : Answer)
    → GivesBuilt table → IsWhole es → AreOf by world es s table depth → IsRequestOf by table q r → IsNamed q.context → RespondsWithoutFalse (untold r) s table depth es first → SaysHeld (holding_in first) listed answer
    → KeepsQuestion by world q first [] answer

module _ (by : Setting) (world : World) (q : Question) (first : PartialResponse) (old told : List (RcStr Global × Value)) (last answer : Answer) where
  -- The answer once these values are told, and what is kept then. It joins the last one with one whose errors are those with
  -- which the policies in force stand again, and is the last one until a name is told that stands in what is left of a policy.
  pub record IsAnsweredLater : Type 0 where
    pub later : IsLaterAnswer by world (record { question = q; told = told_in old; last = last }) (told_in told) answer
    pub keeps : KeepsQuestion by world q first told answer
    pub fine : context_errs by q.context (told_in told) ≡ false
    pub waits : LeftIsUntold (holding_in first) (told_in told) → answer ≡ last
    pub joins : (new : Answer) × ListsStanding world (StandsAgain world.policies (facts_of by world) q (told_in told)) new × IsJoined last new answer

-- where no limit is met, the first response taken up again, joined with the last answer, answers the question
abbrev pub TellsAreAnswered : Type 0
TellsAreAnswered =
    (by : Setting) (world : World) (q : Question) (first again : PartialResponse) (old told : List (RcStr Global × Value)) (es : Entries) (s : Entities) (table : Table) (depth : ℕ)
    (listed : List (Text × ErrorKind)) (last new answer : Answer)
    → GivesBuilt table → KeepsQuestion by world q first old last → AreOf by world es s table depth → AreTold q told → Extends (told_in old) (told_in told)
    → Reauthorizes s table depth told first (Ok again) → SaysHeld (holding_in again) listed new → IsJoined last new answer
    → IsAnsweredLater by world q first old told last answer

-- the context's evaluation failed, by an error that it meets wherever it is evaluated; or the limit was met, which is so only of a context
-- that names an unknown, and is too high with what is told; or memory ran out
abbrev pub IsContextFailure : Setting → World → Question → List (RcStr Global × Value) → Failure → Type 0
IsContextFailure by world q told (OfKind k) = context_errs by q.context (told_in told) ≡ true
IsContextFailure by world q told LimitMet = HasOpenContext q × ((h : Heights) → AreHeights by world q (told_in told) h → ContextIsTooHigh by q h)
IsContextFailure by world q told f = Unit {0}

-- nothing but the context is refused
abbrev pub IsWhyNotTold : Setting → World → Question → List (RcStr Global × Value) → ReauthorizationError → Type 0
IsWhyNotTold by world q told (reauthorization.ConcretizationError (concretization.ValueEval e)) = IsContextFailure by world q told (failure_of e)
IsWhyNotTold by world q told (reauthorization.ConcretizationError (concretization.Memory e)) = Unit {0}
IsWhyNotTold by world q told (reauthorization.Memory e) = Unit {0}
IsWhyNotTold by world q told e = ⊥

-- values that are of their unknowns' kinds are refused for the context alone
abbrev pub TellsAreRefused : Type 0
TellsAreRefused =
    (by : Setting) (world : World) (q : Question) (first : PartialResponse) (old told : List (RcStr Global × Value)) (es : Entries) (s : Entities) (table : Table) (depth : ℕ) (last : Answer) (e : ReauthorizationError)
    → GivesBuilt table → KeepsQuestion by world q first old last → AreOf by world es s table depth → AreTold q told
    → Reauthorizes s table depth told first (Err e)
    → IsWhyNotTold by world q told e

-- a first response that is taken up again meets the limit only where a policy is in force, and each evaluation of what is left is too deep
abbrev pub LimitsAreOfPolicies : Type 0
LimitsAreOfPolicies =
    (by : Setting) (world : World) (q : Question) (first again : PartialResponse) (old told : List (RcStr Global × Value)) (es : Entries) (s : Entities) (table : Table) (depth : ℕ) (last : Answer)
    → GivesBuilt table → KeepsQuestion by world q first old last → AreOf by world es s table depth → AreTold q told
    → Reauthorizes s table depth told first (Ok again) → SomeAtLimit (holding_in again).errors
    → SomeInForce world × ((h : Heights) → AreHeights by world q (told_in told) h → SomeGrowsTooHigh by world h)
