-- The question that a request asks, and what a response says of it.
-- (Cedar language reference, "Authorization" and "Partial evaluation".)
use Rattle.std.specs.Prelude.{◌≡◌, ◌↔◌, ◌⊎◌, ⊤, ℕ, Bool, true, false, Option, Some, None, List, map, Contains}
use Rattle.std.specs.FinMap as finite
use Rattle.std.specs.List.{AllByRecursion, filter_map}
use Rattle.std.specs.declared.alloc.Global.{Global}
use Rattle.std.specs.declared.rc.RcStr.{RcStr}
use Rattle.either.specs.declared.Either.{Either}
use Rattle.either.specs.declared.Either.TheVariants.{Right}
use Rattle.cedar_language.specs.Answering.{Decision, Judged, decision, in_must, in_may, known_decision, is_reason, ids_with, HasId, HasErred}
use Rattle.cedar_language.specs.Authorization.{Policy, Known}
use Rattle.cedar_language.specs.Facts.{Facts}
use Rattle.cedar_language.specs.Restricted.{are_restricted}
use Rattle.cedar_language.specs.Tree.{Tree, Trees}
use Rattle.cedar_language.specs.Uid.{Text}
use Rattle.cedar_language.specs.Value.{Value, Kind}
use Rattle.cedar_partial_evaluation.specs.Early.{GivesPolicies, judged_filled, judged_settled}
use Rattle.cedar_partial_evaluation.specs.Filling.{GivesEach, IsFilling, ErrsEverywhere}
use Rattle.cedar_partial_evaluation.specs.MadeAgain.{HoldsMade}
use Rattle.cedar_partial_evaluation.specs.Prompt.{ErrsAs}
use Rattle.cedar_partial_evaluation.specs.Question.{Entries as Written, NoContext, WithEntries, Question, Told, Extends, AreMadeTold, context_held, settled_of}
use Rattle.cedar_partial_evaluation.specs.ReadUnknowns.{calls_unknown}
use Rattle.cedar_partial_evaluation.specs.Reauthorizing.{IsErring}
use Rattle.cedar_partial_evaluation.specs.Settling.{Errs, settled_in}
use Rattle.cedar_partial_evaluation.specs.Unknowns.{EachUnknownOf}
use Rattle.cedar_entities.specs.declared.store.Entities.{Entities}
use Rattle.cedar_extensions.specs.Failures.{OfKind}
use Rattle.cedar_extensions.specs.Table.{Table}
use Rattle.cedar_evaluator.specs.Asking.{Inquiry, untold}
use Rattle.cedar_interpreter.specs.Operating.{HasFunctions, NamesNothing}
use Rattle.cedar_operators.specs.Store.{HasFacts}
use Rattle.cedar_policy_set.specs.Entries.{Entries, policies_of}
use Rattle.cedar_policy_set.specs.Texts.{condition_in}
use Rattle.cedar_requests.specs.Holding.{RequestParts}
use Rattle.cedar_requests.specs.ToldContexts.{HoldTold}
use Rattle.cedar_restricted_evaluation.specs.Evaluations.{part_answer}
use Rattle.cedar_evaluator.specs.Authorizing.{RespondsWith}
use Rattle.cedar_evaluator.specs.Evaluations.{IsServed}
use Rattle.cedar_evaluator.specs.Holding.{holding_in}
use Rattle.cedar_evaluator.specs.Known.{HasGiven, policy_in, judged_in, IsKnownPolicy, meets_limit, error_of}
use Rattle.cedar_evaluator.specs.Reauthorizing.{IsReauthorized}
use Rattle.cedar_evaluator.specs.Residuals.{residuals_with, is_any}
use Rattle.cedar_evaluator.specs.Responses.{Holding, judged_held}
use Rattle.cedar_evaluator.specs.declared.partial_response.PartialResponse.{PartialResponse}

-- ---- the question of a request

-- the request's context is what the question's record of data is evaluated to, nothing told; or neither gives one
pub data AsksContext (facts : Facts) : Written → Option (Either Value Tree) → Type 0 where
  neither_given : AsksContext facts NoContext None
  both_given : {ks : List Text} {ts : Trees} {p : Either Value Tree} → are_restricted ts ≡ true → part_answer p ≡ context_held facts finite.empty (WithEntries ks ts) → AsksContext facts (WithEntries ks ts) (Some p)

-- the request gives what the question gives, with the types that it states
pub record Asks (facts : Facts) (q : Question) (r : RequestParts) : Type 0 where
  pub principal : r.principal ≡ q.principal
  pub action : r.action ≡ q.action
  pub resource : r.resource ≡ q.resource
  pub context : AsksContext facts q.context r.context

-- ---- the policies

-- the static policies and links of a set, as policies in force
abbrev pub policies_asked : Entries → List Policy
policies_asked es = map policy_in (policies_of es)

-- by these facts each of their conditions can be evaluated
abbrev pub AreServed : Inquiry → Entities → Table → ℕ → Facts → Entries → Type 0
AreServed i store table depth facts es = AllByRecursion (λ e. IsServed i store table depth facts (condition_in e.1)) (policies_of es)

-- ---- what a response says

-- the ids of the policies that are reasons whatever is unknown, and of those that can be one
abbrev pub must_in : Holding → List Text
must_in h = ids_with (in_must (judged_held h)) (judged_held h)

abbrev pub may_in : Holding → List Text
may_in h = ids_with (in_may (judged_held h)) (judged_held h)

-- the policy of this id erred, with this kind
abbrev pub TellsError : Holding → Text → Kind → Type 0
TellsError h id k = Contains h.errors (id, OfKind k)

-- it is so where the policies stand like these: decision, reasons and the ids of the errors
pub record IsFairOf (h : Holding) (js : List Judged) : Type 0 where
  pub decides : (d : Decision) → decision (judged_held h) ≡ Some d → known_decision js ≡ d
  pub must : (id : Text) → Contains (must_in h) id → HasId js (is_reason js) id
  pub may : (id : Text) → HasId js (is_reason js) id → Contains (may_in h) id
  pub erring : (id : Text) (k : Kind) → TellsError h id k → (l : Kind) × HasErred js id l

-- it says all that is said of policies that stand like these
pub record IsAsSharpAs (h : Holding) (js : List Judged) : Type 0 where
  pub decides : (d : Decision) → decision js ≡ Some d → decision (judged_held h) ≡ Some d
  pub must : (id : Text) → HasId js (in_must js) id → Contains (must_in h) id
  pub may : (id : Text) → Contains (may_in h) id → HasId js (in_may js) id

-- it is all that is so where the policies stand like these
pub record IsExactOf (h : Holding) (js : List Judged) : Type 0 where
  pub decides : decision (judged_held h) ≡ Some (known_decision js)
  pub must : (id : Text) → Contains (must_in h) id ↔ HasId js (is_reason js) id
  pub may : (id : Text) → Contains (may_in h) id ↔ HasId js (is_reason js) id

-- ---- a first response

module _ (facts : Facts) (q : Question) (ps : List Policy) (h : Holding) where
  -- What is said holds under each filling, and is as sharp as what is settled of the conditions; what settles to an error is told
  -- with a kind to which it settles.
  pub record AnswersQuestion : Type 0 where
    pub fair : (filling : Told) (known : Known) → IsFilling facts q filling known → GivesPolicies filling ps → IsFairOf h (map (judged_filled facts known filling) ps)
    pub prompt : IsAsSharpAs h (map (judged_settled facts q finite.empty) ps)
    pub erring : (id : Text) (k : Kind) → HasErred (map (judged_settled facts q finite.empty) ps) id k → (l : Kind) × TellsError h id l
    pub kinds : (p : Policy) → Contains ps p → settled_in facts (settled_of facts q p.slots finite.empty) p.condition ≡ Errs →
        (k : Kind) × TellsError h p.id k × ErrsAs facts (settled_of facts q p.slots finite.empty) (ErrsEverywhere facts q p.slots finite.empty) p.condition k

-- Where no limit was met, a response to a request says this of each question that the request asks.
abbrev pub ResponsesAnswerRequests : Type 0
ResponsesAnswerRequests =
    (facts : Facts) → HoldsMade facts → (q : Question) (r : RequestParts) → Asks facts q r →
    (store : Entities) (table : Table) (depth : ℕ) (es : Entries) → AreServed (untold r) store table depth facts es →
    (with_false : Bool) (response : PartialResponse) → RespondsWith with_false (untold r) store table depth es response → meets_limit (holding_in response).errors ≡ false →
    AnswersQuestion facts q (policies_asked es) (holding_in response)

-- Where the conditions mention only what a request gives, it says just what Cedar's rules say, kinds of errors included.
abbrev pub KnownRequestsAreAnswered : Type 0
KnownRequestsAreAnswered =
    (facts : Facts) (known : Known) (r : RequestParts) → HasGiven r known →
    (store : Entities) (table : Table) (depth : ℕ) (es : Entries) → AllByRecursion (IsKnownPolicy (untold r) store table depth facts) (policies_of es) →
    (with_false : Bool) (response : PartialResponse) → RespondsWith with_false (untold r) store table depth es response → meets_limit (holding_in response).errors ≡ false →
    IsExactOf (holding_in response) (map (judged_in facts known) (policies_of es))
    × ((holding_in response).errors ≡ filter_map (λ (j : Judged). error_of j.id j.standing) (map (judged_in facts known) (policies_of es)))

-- ---- a response that is taken up again

-- no unknown of the context states a type, and no call of `unknown` is left of it where the table has that function
abbrev pub StatesNoTypes : Written → Type 0
StatesNoTypes NoContext = ⊤
StatesNoTypes (WithEntries ks ts) = EachUnknownOf (λ n ty. ty ≡ None) ts

pub record IsPlainContext (table : Table) (c : Written) (o : Option (Either Value Tree)) : Type 0 where
  pub untyped : StatesNoTypes c
  pub plain : (t : Tree) → o ≡ Some (Right t) → table.has_unknown ≡ true → calls_unknown t ≡ false

-- by these facts what is left of each policy can be evaluated
pub record IsLeftServed (store : Entities) (table : Table) (facts : Facts) (response : PartialResponse) : Type 0 where
  pub entities : HasFacts store facts
  pub functions : HasFunctions table facts
  pub names_nothing : AllByRecursion (λ e. NamesNothing table (condition_in e.1)) (residuals_with is_any response)

module _ (facts : Facts) (q : Question) (ps : List Policy) (told : Told) (first again : Holding) where
  -- What is said holds under each filling that keeps what is told, and is as sharp as what is settled then; what settles to an error
  -- erred at first or does now. Once nothing is unknown it is the known answer, and so is what errs.
  pub record AnswersLater : Type 0 where
    pub fair : (filling : Told) (known : Known) → Extends told filling → IsFilling facts q filling known → GivesPolicies filling ps → IsFairOf again (map (judged_filled facts known filling) ps)
    pub prompt : IsAsSharpAs again (map (judged_settled facts q told) ps)
    pub erring : (p : Policy) → Contains ps p → IsErring (judged_settled facts q told p).standing → (k : Kind) × (TellsError first p.id k ⊎ TellsError again p.id k)
    pub known : (request : Known) → IsFilling facts q told request → GivesPolicies told ps → IsExactOf again (map (judged_filled facts request told) ps)
    pub known_erring : (request : Known) → IsFilling facts q told request → (p : Policy) → Contains ps p → GivesEach told p.condition → IsErring (judged_filled facts request told p).standing →
        (k : Kind) × (TellsError first p.id k ⊎ TellsError again p.id k)

-- Where no limit was met, a response that is taken up again with what is told says this of the question.
abbrev pub LaterResponsesAnswerRequests : Type 0
LaterResponsesAnswerRequests =
    (facts : Facts) → HoldsMade facts → (q : Question) (r : RequestParts) → Asks facts q r →
    (store : Entities) (table : Table) (depth : ℕ) (es : Entries) → AreServed (untold r) store table depth facts es →
    (with_false : Bool) (first : PartialResponse) → RespondsWith with_false (untold r) store table depth es first → meets_limit (holding_in first).errors ≡ false →
    (entries : List (RcStr Global × Value)) (told : Told) → HoldTold entries told → AreMadeTold facts told →
    (later_store : Entities) (later_table : Table) (later_depth : ℕ) → IsPlainContext later_table q.context r.context → IsLeftServed later_store later_table facts first →
    (again : PartialResponse) → IsReauthorized later_store later_table later_depth entries first again → meets_limit (holding_in again).errors ≡ false →
    AnswersLater facts q (policies_asked es) told (holding_in first) (holding_in again)
