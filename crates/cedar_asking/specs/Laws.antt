-- What a response to a question's request says of the policies that a world holds is a first answer to the question.
use Rattle.std.specs.Prelude.{◌≡◌, ℕ, true, false, List, map}
use Rattle.std.specs.FinMap as finite
use Rattle.cedar_language.specs.Facts.{Facts}
use Rattle.cedar_language.specs.Uid.{Text}
use Rattle.cedar_language.specs.Answering.{decision, in_must, in_may, ids_with}
use Rattle.cedar_partial_evaluation.specs.MadeAgain.{HoldsMade}
use Rattle.cedar_world.specs.Answer.{Answer, ids_of}
use Rattle.cedar_world.specs.Asking.{Question}
use Rattle.cedar_world.specs.Found.{SaysWhatIsFound}
use Rattle.cedar_world.specs.Heights.{AsksTooDeep}
use Rattle.cedar_world.specs.Setting.{Setting, functions_alone}
use Rattle.cedar_world.specs.Standing.{StandsEarly}
use Rattle.cedar_world.specs.Step.{IsFirstAnswer, SomeInForce}
use Rattle.cedar_world.specs.World.{World}
use Rattle.cedar_world.specs.WorldFacts.{AreFactsOf, facts_of}
use Rattle.cedar_world.specs.Lookups.{ListsStanding}
use Rattle.cedar_held.specs.Shown.{Shows}
use Rattle.cedar_entities.specs.Store.{held_at, is_partial_store, IsClosed}
use Rattle.cedar_entities.specs.declared.store.Entities.{Entities}
use Rattle.cedar_extensions.specs.Table.{Table}
use Rattle.cedar_evaluator.specs.Asking.{untold}
use Rattle.cedar_interpreter.specs.Operating.{HasFunctions}
use Rattle.cedar_operators.specs.Store.{HasFacts}
use Rattle.cedar_policy_set.specs.Entries.{Entries, IsWhole, policies_of}
use Rattle.cedar_policy_set.specs.Texts.{AreToldBySlots, NameNoUnknown}
use Rattle.cedar_held.specs.PolicyWorlds.{policies_in}
use Rattle.cedar_replies.specs.Erring.{have_kinds, with_kinds}
use Rattle.cedar_replies.specs.declared.error_kind.ErrorKind.{ErrorKind}
use Rattle.cedar_requests.specs.Holding.{RequestParts}
use Rattle.cedar_asking.specs.Answers.{IsSettingOf}
use Rattle.cedar_held.specs.Built.{HoldBuilt, GivesBuilt}
use Rattle.cedar_asking.specs.Erring.{with_failure, SomeAtLimit}
use Rattle.cedar_evaluator.specs.Evaluations.{Kept, AreKept}
use Rattle.cedar_telling.specs.Requests.{IsRequestOf}
use Rattle.cedar_evaluator.specs.Responses.{Holding, holding_of, judged_held}

-- ---- the facts of a world

-- a whole store that shows the world's entities has its facts
abbrev pub StoresHaveWorldFacts : Type 0
StoresHaveWorldFacts = (by : Setting) (world : World) (facts : Facts) (s : Entities) → AreFactsOf by world facts → Shows (held_at s) world.entities → IsClosed s → is_partial_store s ≡ false → HasFacts s facts

-- a table that has the setting's functions has those of its worlds
abbrev pub TablesServeWorlds : Type 0
TablesServeWorlds = (by : Setting) (world : World) (facts : Facts) (table : Table) → AreFactsOf by world facts → HasFunctions table (functions_alone by.functions) → HasFunctions table facts

-- what a world holds, and what functions give, is made again by trees for it, where sets in it rise and keys are bytes
abbrev pub WorldsAreMade : Type 0
WorldsAreMade = (by : Setting) (world : World) (facts : Facts) (table : Table) → GivesBuilt table → HasFunctions table facts → HoldBuilt world.entities → AreFactsOf by world facts → HoldsMade facts

-- ---- responses

-- a world has the policies of a whole set, and its facts are those of a store and a table
pub record IsHeldBy (by : Setting) (world : World) (facts : Facts) (es : Entries) (s : Entities) (table : Table) : Type 0 where
  pub whole : IsWhole es
  pub slots : AreToldBySlots es
  pub names : NameNoUnknown es
  pub policies : world.policies ≡ policies_in es
  pub are_facts : AreFactsOf by world facts
  pub store : HasFacts s facts
  pub functions : HasFunctions table facts

-- the answer has the decision of what a response holds, its ids that must and that may be reasons, and its errors by these names
pub record SaysHeld (h : Holding) (listed : List (Text × ErrorKind)) (answer : Answer) : Type 0 where
  pub kinds : have_kinds listed ≡ true
  pub errors : map with_failure listed ≡ h.errors
  pub decided : answer.decision ≡ decision (judged_held h)
  pub must : answer.must ≡ ids_of (ids_with (in_must (judged_held h)) (judged_held h))
  pub may : answer.may ≡ ids_of (ids_with (in_may (judged_held h)) (judged_held h))
  pub erring : answer.erring ≡ finite.from_entries (with_kinds listed)

module _ (by : Setting) (world : World) (facts : Facts) (es : Entries) (s : Entities) (table : Table) (depth : ℕ) (q : Question) (r : RequestParts) (ks : List Kept) where
  pub record AnswersQuestion : Type 0 where
    -- where no limit was met, what the response says is a first answer
    pub first : HoldsMade facts → (listed : List (Text × ErrorKind)) (answer : Answer) → SaysHeld (holding_of ks) listed answer → IsFirstAnswer by world q answer
    -- it says what the evaluation of each policy in force finds
    pub found : facts ≡ facts_of by world → (listed : List (Text × ErrorKind)) (answer : Answer) → SaysHeld (holding_of ks) listed answer → SaysWhatIsFound by world q answer
    -- and its errors are those with which the policies in force stand
    pub errors : (listed : List (Text × ErrorKind)) (answer : Answer) → SaysHeld (holding_of ks) listed answer → ListsStanding world (StandsEarly facts q finite.empty) answer
    -- the limit is met only where a policy is in force
    pub in_force : SomeAtLimit (holding_of ks).errors → SomeInForce world
    -- and each evaluation that answers is too deep
    pub limit : IsSettingOf table depth by → SomeAtLimit (holding_of ks).errors → AsksTooDeep by world q

-- what is kept of the policies held, evaluated for the request of a question, answers it
abbrev pub ResponsesAnswerQuestions : Type 0
ResponsesAnswerQuestions =
    (by : Setting) (world : World) (facts : Facts) (es : Entries) (s : Entities) (table : Table) (depth : ℕ) (q : Question) (r : RequestParts) (ks : List Kept)
    → IsHeldBy by world facts es s table → IsRequestOf by table q r → AreKept (untold r) s table depth (policies_of es) ks
    → AnswersQuestion by world facts es s table depth q r ks
