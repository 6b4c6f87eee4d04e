-- What a question is answered over the policies and entities of a world, when it is asked and once more is told.
use Rattle.std.specs.Prelude.{◌≡◌, ◌⊎◌, ⊤, ℕ, true, Result, Ok, Err, List, []}
use Rattle.std.specs.FinMap as finite
use Rattle.std.specs.declared.alloc.Global.{Global}
use Rattle.std.specs.declared.rc.RcStr.{RcStr}
use Rattle.cedar_language.specs.Uid.{Text}
use Rattle.cedar_language.specs.Value.{Value}
use Rattle.cedar_world.specs.Answer as answers
use Rattle.cedar_world.specs.Asking.{Question}
use Rattle.cedar_world.specs.Found.{SaysWhatIsFound}
use Rattle.cedar_world.specs.Heights.{AsksTooDeep, TellsTooDeep}
use Rattle.cedar_world.specs.Question.{HasOpenContext}
use Rattle.cedar_world.specs.Setting.{Setting}
use Rattle.cedar_world.specs.Standing.{StandsEarly}
use Rattle.cedar_world.specs.Step.{IsFirstAnswer, SomeInForce}
use Rattle.cedar_world.specs.Values.{context_errs}
use Rattle.cedar_world.specs.World.{World}
use Rattle.cedar_world.specs.WorldFacts.{facts_of}
use Rattle.cedar_world.specs.Lookups.{ListsStanding}
use Rattle.cedar_held.specs.BodyRefusals.{refusal_by}
use Rattle.cedar_partial_evaluation.specs.Question.{Extends}
use Rattle.cedar_entities.specs.declared.store.Entities.{Entities}
use Rattle.cedar_policy_set.specs.Entries.{Entries}
use Rattle.cedar_requests.specs.Holding.{RequestParts}
use Rattle.cedar_evaluator.specs.Holding.{holding_in}
use Rattle.cedar_evaluator.specs.declared.errors.ConcretizationError.TheVariants as concretization
use Rattle.cedar_evaluator.specs.declared.errors.ReauthorizationError.{ReauthorizationError}
use Rattle.cedar_evaluator.specs.declared.errors.ReauthorizationError.TheVariants as reauthorization
use Rattle.cedar_evaluator.specs.declared.partial_response.PartialResponse.{PartialResponse}
use Rattle.cedar_extensions.specs.Failures.{failure_of}
use Rattle.cedar_extensions.specs.Table.{Table}
use Rattle.cedar_replies.specs.Replies.{answer_of}
use Rattle.cedar_replies.specs.declared.answer.Answer.{Answer}
use Rattle.cedar_replies.specs.declared.error_kind.ErrorKind.{ErrorKind}
use Rattle.cedar_replies.specs.declared.refusal.Refusal.{Refusal}
use Rattle.cedar_replies.specs.declared.refusal.Refusal.TheVariants.{Evaluation, Depth, Memory}
use Rattle.cedar_asking.specs.Answering.{AreOf}
use Rattle.cedar_asking.specs.Erring.{SomeAtLimit}
use Rattle.cedar_asking.specs.Keeping.{AreTold, IsNamed, KeepsQuestion}
use Rattle.cedar_asking.specs.Laws.{SaysHeld}
use Rattle.cedar_asking.specs.TellLaws.{IsAnsweredLater}
use Rattle.cedar_telling.specs.Requests.{IsRequestOf}
use Rattle.cedar_telling.specs.Tells.{told_in}

-- the answer has the decision, the ids and the errors of what the response holds; or some error met the limit
abbrev pub SaysResponse : PartialResponse → Result Answer Refusal → Type 0
SaysResponse response (Ok answer) = (listed : List (Text × ErrorKind)) × SaysHeld (holding_in response) listed (answer_of answer)
SaysResponse response (Err Depth) = SomeAtLimit (holding_in response).errors
SaysResponse response (Err Memory) = ⊤
SaysResponse response (Err r) = ⊥

-- a first answer to the question, whose errors are those with which the policies in force stand, and the response by which it
-- goes on
pub record IsAnswered (by : Setting) (world : World) (q : Question) (first : PartialResponse) (answer : answers.Answer) : Type 0 where
  pub answers : IsFirstAnswer by world q answer
  pub found : SaysWhatIsFound by world q answer
  pub errors : ListsStanding world (StandsEarly (facts_of by world) q finite.empty) answer
  pub keeps : KeepsQuestion by world q first [] answer

-- The limit is met only where some policy is in force, and each evaluation that answers is too deep. Want of memory says nothing.
abbrev pub AnswersAsked : Setting → World → Question → Result (PartialResponse × Answer) Refusal → Type 0
AnswersAsked by world q (Ok found) = IsAnswered by world q found.0 (answer_of found.1)
AnswersAsked by world q (Err Depth) = SomeInForce world × AsksTooDeep by world q
AnswersAsked by world q (Err Memory) = ⊤
AnswersAsked by world q (Err r) = ⊥

-- the answer to each question that makes such a request, in each world whose policies and entities these are
abbrev pub AnswersRequest : Table → ℕ → Entries → Entities → RequestParts → Result (PartialResponse × Answer) Refusal → Type 0
AnswersRequest table depth policies store request result =
    (by : Setting) (world : World) (q : Question) → AreOf by world policies store table depth → IsRequestOf by table q request → IsNamed q.context →
    AnswersAsked by world q result

-- the context errs, the limit was met, or memory ran out; nothing else is refused of values that are of their unknowns' kinds
abbrev pub IsToldAs : ReauthorizationError → Refusal → Type 0
IsToldAs (reauthorization.ConcretizationError (concretization.ValueEval e)) r = r ≡ refusal_by (failure_of e)
IsToldAs (reauthorization.ConcretizationError (concretization.Memory e)) r = r ≡ Memory
IsToldAs (reauthorization.Memory e) r = r ≡ Memory
IsToldAs e r = ⊤

-- The answer once these values are told besides the old ones, or why there is none. The limit is met only where some policy is in
-- force, or the question's context names an unknown, and what is evaluated again is too deep.
abbrev pub AnswersTold : Setting → World → Question → PartialResponse → List (RcStr Global × Value) → List (RcStr Global × Value) → answers.Answer → Result Answer Refusal → Type 0
AnswersTold by world q first old told last (Ok answer) = IsAnsweredLater by world q first old told last (answer_of answer)
AnswersTold by world q first old told last (Err Evaluation) = context_errs by q.context (told_in told) ≡ true
AnswersTold by world q first old told last (Err Depth) = (SomeInForce world ⊎ HasOpenContext q) × TellsTooDeep by world q (told_in told)
AnswersTold by world q first old told last (Err Memory) = ⊤
AnswersTold by world q first old told last (Err r) = ⊥

-- the answer once all of this is told, for each question that was kept with less of it, in each world whose entities these are
abbrev pub AnswersAgain : Table → ℕ → PartialResponse → List (RcStr Global × Value) → answers.Answer → Entities → Result Answer Refusal → Type 0
AnswersAgain table depth first told last store result =
    (by : Setting) (world : World) (q : Question) (old : List (RcStr Global × Value)) (policies : Entries) →
    KeepsQuestion by world q first old last → AreOf by world policies store table depth → AreTold q told → Extends (told_in old) (told_in told) →
    AnswersTold by world q first old told last result
