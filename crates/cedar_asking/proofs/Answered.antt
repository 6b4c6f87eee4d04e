-- A response to the request of a question, over the policies and entities of a world, answers the question.
use Rattle.std.proofs.Common.{refl, ◌≡◌, ap, subst, ℕ, List, Ok, Err}
use Rattle.cedar_language.specs.Uid.{Text}
use Rattle.cedar_world.specs.Answer as answers
use Rattle.cedar_world.specs.Asking.{Question}
use Rattle.cedar_world.specs.Setting.{Setting}
use Rattle.cedar_world.specs.World.{World}
use Rattle.cedar_world.specs.WorldFacts.{AreFactsOf, facts_of, WorldsHaveFacts}
use Rattle.cedar_entities.specs.declared.store.Entities.{Entities}
use Rattle.cedar_extensions.specs.Failures.{Failure}
use Rattle.cedar_extensions.specs.Table.{Table}
use Rattle.cedar_evaluator.specs.Asking.{untold}
use Rattle.cedar_interpreter.specs.Operating.{HasFunctions}
use Rattle.cedar_policy_set.specs.Entries.{Entries, IsWhole}
use Rattle.cedar_replies.specs.Replies.{answer_of}
use Rattle.cedar_replies.specs.declared.answer.Answer.{Answer}
use Rattle.cedar_replies.specs.declared.error_kind.ErrorKind.{ErrorKind}
use Rattle.cedar_replies.specs.declared.refusal.Refusal.{Refusal}
use Rattle.cedar_replies.specs.declared.refusal.Refusal.TheVariants as refusal
use Rattle.cedar_requests.specs.Holding.{RequestParts}
use Rattle.cedar_held.specs.Built.{GivesBuilt}
use Rattle.cedar_evaluator.specs.Authorizing.{RespondsWithoutFalse}
use Rattle.cedar_evaluator.specs.Holding.{holding_in}
use Rattle.cedar_evaluator.specs.Responses.{Holding, holding_of}
use Rattle.cedar_evaluator.specs.declared.partial_response.PartialResponse.{PartialResponse}
use Rattle.cedar_asking.specs.Answering.{AreOf}
use Rattle.cedar_asking.specs.Erring.{SomeAtLimit, ListsErrors}
use Rattle.cedar_asking.specs.Keeping.{IsNamed}
use Rattle.cedar_asking.specs.Laws.{StoresHaveWorldFacts, TablesServeWorlds, WorldsAreMade, IsHeldBy, SaysHeld, AnswersQuestion, ResponsesAnswerQuestions}
use Rattle.cedar_telling.specs.Requests.{IsRequestOf}
use Rattle.cedar_asking.specs.Responses.{SaysResponse, IsAnswered, AnswersAsked}
use Rattle.cedar_asking.specs.TellLaws.{QuestionsAreKept}
use Rattle.cedar_asking.proofs.WithoutFalse.{says_with_all}

-- the response of an authorizer with this table and this limit
pub responds_at : (r : RequestParts) (s : Entities) (t table : Table) (n depth : ℕ) (es : Entries) (response : PartialResponse) → t ≡ table → n ≡ depth → RespondsWithoutFalse (untold r) s t n es response → RespondsWithoutFalse (untold r) s table depth es response
responds_at r s t table n depth es response e f h =
    subst (λ (m : ℕ). RespondsWithoutFalse (untold r) s table m es response) f (subst (λ (u : Table). RespondsWithoutFalse (untold r) s u n es response) e h)

-- a response of which some error isn't listed says nothing: it met the limit, or memory ran out
pub unlisted : (response : PartialResponse) (errors : List (Text × Failure)) → errors ≡ (holding_in response).errors → (refused : Refusal) → ListsErrors errors (Err refused) → SaysResponse response (Err refused)
unlisted response errors is refusal.Depth h = subst SomeAtLimit is h
unlisted response errors is refusal.Memory h = tt
unlisted response errors is refused h = absurd h

module _ (exist : WorldsHaveFacts) (stores : StoresHaveWorldFacts) (tables : TablesServeWorlds) (made : WorldsAreMade) (answer : ResponsesAnswerQuestions) (keep : QuestionsAreKept)
    (by : Setting) (world : World) (q : Question) (es : Entries) (s : Entities) (table : Table) (gives : GivesBuilt table) (depth : ℕ) (r : RequestParts)
    (whole : IsWhole es) (are : AreOf by world es s table depth) (asked : IsRequestOf by table q r) (named : IsNamed q.context) (response : PartialResponse) (responds : RespondsWithoutFalse (untold r) s table depth es response) where
  are_facts : AreFactsOf by world (facts_of by world)
  are_facts = exist.exist by world

  functions : HasFunctions table (facts_of by world)
  functions = tables by world (facts_of by world) table are_facts are.setting.functions

  held_by_world : IsHeldBy by world (facts_of by world) es s table
  held_by_world = record {
    whole = whole;
    slots = are.slots;
    names = are.names;
    policies = are.policies;
    are_facts = are_facts;
    store = stores by world (facts_of by world) s are_facts are.shows are.closed are.whole;
    functions = functions;
  }

  answered : AnswersQuestion by world (facts_of by world) es s table depth q r responds.kept
  answered = answer by world (facts_of by world) es s table depth q r responds.kept held_by_world asked responds.each

  says_kept : (listed : List (Text × ErrorKind)) (a : answers.Answer) → SaysHeld (holding_in response) listed a → SaysHeld (holding_of responds.kept) listed a
  says_kept listed a says = says_with_all (holding_of responds.kept) listed a (subst (λ (h : Holding). SaysHeld h listed a) responds.holds says)

  -- what the response says is a first answer, by which the question is kept
  pub is_answered : (a : Answer) → SaysResponse response (Ok a) → IsAnswered by world q response (answer_of a)
  is_answered a (listed, says) = record {
    answers = answered.first (made by world (facts_of by world) table gives functions are.built are_facts) listed (answer_of a) (says_kept listed (answer_of a) says);
    found = answered.found refl listed (answer_of a) (says_kept listed (answer_of a) says);
    errors = answered.errors listed (answer_of a) (says_kept listed (answer_of a) says);
    keeps = keep by world q es s table depth r response listed (answer_of a) gives whole are asked named responds says;
  }

  -- what it doesn't say is refused for a limit that was met, or for want of memory
  pub not_answered : (refused : Refusal) → SaysResponse response (Err refused) → AnswersAsked by world q (Err refused)
  not_answered refusal.Depth some =
      let met : SomeAtLimit (holding_of responds.kept).errors = subst SomeAtLimit (ap (λ (h : Holding). h.errors) responds.holds) some in
      (answered.in_force met, answered.limit are.setting met)
  not_answered refusal.Memory h = tt
  not_answered refused h = absurd h
