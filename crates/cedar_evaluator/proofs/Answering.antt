-- What a response says of the question that its request asks.
use Rattle.std.proofs.Common.{◌≡◌, ℕ, Bool, true, false, List, map, Contains, refl, sym, ◌∙◌, ap, subst}
use Rattle.std.specs.FinMap as finite
use Rattle.cedar_language.specs.Answering as answering
use Rattle.cedar_language.specs.Answering.{HasErred}
use Rattle.cedar_language.specs.Authorization.{Policy}
use Rattle.cedar_language.specs.Facts.{Facts}
use Rattle.cedar_language.specs.Uid.{Text}
use Rattle.cedar_language.specs.Value.{Kind}
use Rattle.cedar_partial_evaluation.specs.Early.{EarlyAnswersAreFair, EarlyAnswersArePrompt, EarlyKindsAreSettled, judged_early, judged_filled, judged_settled}
use Rattle.cedar_partial_evaluation.specs.MadeAgain.{HoldsMade}
use Rattle.cedar_partial_evaluation.specs.Prompt.{IsPrompt}
use Rattle.cedar_partial_evaluation.specs.Question.{Question}
use Rattle.cedar_entities.specs.declared.store.Entities.{Entities}
use Rattle.cedar_extensions.specs.Failures.{Failure, OfKind}
use Rattle.cedar_extensions.specs.Table.{Table}
use Rattle.cedar_evaluator.specs.Asking.{Inquiry, untold}
use Rattle.cedar_policy_set.specs.Entries.{Entries, policies_of}
use Rattle.cedar_requests.specs.Holding.{RequestParts}
use Rattle.cedar_evaluator.specs.Authorizing.{RespondsWith}
use Rattle.cedar_evaluator.specs.Evaluations.{Kept, AreKept}
use Rattle.cedar_evaluator.specs.Holding.{holding_in, request_asked}
use Rattle.cedar_evaluator.specs.Known.{meets_limit}
use Rattle.cedar_evaluator.specs.Questions.{Asks, policies_asked, AreServed, TellsError, AnswersQuestion, ResponsesAnswerRequests}
use Rattle.cedar_evaluator.specs.Responses.{Holding, errors_of, judged_held}
use Rattle.cedar_evaluator.specs.declared.partial_response.PartialResponse.{PartialResponse}
use Rattle.cedar_evaluator.proofs.AskedSo.{extends_nothing, nothing_is_made, asked_held, asked_accepted, all_early}
use Rattle.cedar_evaluator.proofs.Counted.{CountAlike}
use Rattle.cedar_evaluator.proofs.Erring.{errors_seen, errors_told}
use Rattle.cedar_evaluator.proofs.Grouped.{all_count_alike, true_count_alike}
use Rattle.cedar_evaluator.proofs.Lists.{contains, contained, mapped}
use Rattle.cedar_evaluator.proofs.Paired.{fair_of, sharp_of, erring_along}
use Rattle.cedar_evaluator.proofs.Standings.{judged}
use Rattle.cedar_evaluator.proofs.Taken.{HoldsKept, all_kept, true_kept}

-- ---- what a response keeps

-- of each policy this was found, and the response holds it
pub record Keeps (i : Inquiry) (store : Entities) (table : Table) (depth : ℕ) (es : Entries) (h : Holding) : Type 0 where
  pub kept : List Kept
  pub each : AreKept i store table depth es kept
  pub errors : h.errors ≡ errors_of kept
  pub alike : CountAlike (judged_held h) (map judged kept)
  pub holds : HoldsKept kept h

pub keeps : (with_false : Bool) (i : Inquiry) (store : Entities) (table : Table) (depth : ℕ) (es : Entries) (response : PartialResponse) → RespondsWith with_false i store table depth es response → Keeps i store table depth (policies_of es) (holding_in response)
keeps true i store table depth es response responds = record {
  kept = responds.kept;
  each = responds.each;
  errors = ap (λ (h : Holding). h.errors) responds.holds;
  alike = subst (λ (h : Holding). CountAlike (judged_held h) (map judged responds.kept)) (sym responds.holds) (all_count_alike responds.kept);
  holds = all_kept responds.kept (holding_in response) responds.holds;
}
keeps false i store table depth es response responds = record {
  kept = responds.kept;
  each = responds.each;
  errors = ap (λ (h : Holding). h.errors) responds.holds;
  alike = subst (λ (h : Holding). CountAlike (judged_held h) (map judged responds.kept)) (sym responds.holds) (true_count_alike responds.kept);
  holds = true_kept responds.kept (holding_in response) responds.holds;
}

pub request_is : (with_false : Bool) (i : Inquiry) (store : Entities) (table : Table) (depth : ℕ) (es : Entries) (response : PartialResponse) → RespondsWith with_false i store table depth es response → request_asked response ≡ i.request
request_is true i store table depth es response responds = responds.asked
request_is false i store table depth es response responds = responds.asked

-- ---- the first response

module _ (facts : Facts) (good : HoldsMade facts) (q : Question) (r : RequestParts) (asks : Asks facts q r) (store : Entities) (table : Table) (depth : ℕ) (es : Entries) (served : AreServed (untold r) store table depth facts es)
    (h : Holding) (of : Keeps (untold r) store table depth (policies_of es) h) (within : meets_limit h.errors ≡ false) where
  abbrev ps : List Policy
  ps = policies_asked es

  pub early_is : map judged of.kept ≡ map (judged_early facts q finite.empty) ps
  early_is = all_early facts q (untold r) store table depth finite.empty (asked_held facts q r asks) (policies_of es) of.kept served of.each (ap meets_limit (sym of.errors) ∙ within)

  alike_early : CountAlike (judged_held h) (map (judged_early facts q finite.empty) ps)
  alike_early = subst (CountAlike (judged_held h)) early_is of.alike

  seen : (id : Text) (k : Kind) → TellsError h id k → HasErred (map (judged_early facts q finite.empty) ps) id k
  seen id k c = subst (λ js. HasErred js id k) early_is (errors_seen of.kept id k (subst (λ (es : List (Text × Failure)). Contains es (id, OfKind k)) of.errors c))

  pub told : (id : Text) (k : Kind) → HasErred (map (judged_early facts q finite.empty) ps) id k → TellsError h id k
  told id k e = subst (λ (es : List (Text × Failure)). Contains es (id, OfKind k)) (sym of.errors) (errors_told of.kept id k (subst (λ js. HasErred js id k) (sym early_is) e))

  pub erred_at : (p : Policy) → Contains ps p → (k : Kind) → (judged_early facts q finite.empty p).standing ≡ answering.Erring k → TellsError h p.id k
  erred_at p c k e = told p.id k (judged_early facts q finite.empty p, contains _ _ (mapped (judged_early facts q finite.empty) ps p (contained ps p c)), refl, e)

  pub answers_question : EarlyAnswersAreFair → EarlyAnswersArePrompt → EarlyKindsAreSettled → IsPrompt → AnswersQuestion facts q ps h
  answers_question fair prompt kinds is_prompt =
      let accepted = asked_accepted facts q r asks is_prompt good in
      let sharp = prompt facts good q finite.empty (nothing_is_made facts) accepted ps in
      record {
        fair = λ filling known fills gives.
            fair_of (judged_early facts q finite.empty) (judged_filled facts known filling) (λ p. refl) ps h alike_early seen
            (fair facts good q finite.empty filling known (extends_nothing filling) (nothing_is_made facts) fills ps gives);
        prompt = sharp_of (judged_early facts q finite.empty) (judged_settled facts q finite.empty) (λ p. refl) ps h alike_early sharp.0;
        erring = λ id k e.
            let (l, errs) = erring_along (judged_settled facts q finite.empty) (judged_early facts q finite.empty) (λ p. refl) ps sharp.1 id k e in
            (l, told id l errs);
        kinds = λ p c settles.
            let (k, is, errs) = kinds facts good q finite.empty (nothing_is_made facts) accepted p settles in
            (k, erred_at p c k is, errs);
      }

pub responses_answer : EarlyAnswersAreFair → EarlyAnswersArePrompt → EarlyKindsAreSettled → IsPrompt → ResponsesAnswerRequests
responses_answer fair prompt kinds is_prompt = λ facts good q r asks store table depth es served with_false response responds within.
    answers_question facts good q r asks store table depth es served (holding_in response) (keeps with_false (untold r) store table depth es response responds) within fair prompt kinds is_prompt
