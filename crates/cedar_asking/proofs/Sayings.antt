-- What a response says of the policies that it keeps is what the rules say of them.
use Rattle.std.proofs.Common.{◌≡◌, List, map, sym, ◌∙◌, ap, true≢false}
use Rattle.std.specs.FinMap as finite
use Rattle.cedar_language.specs.Answering.{Judged, decision, in_must, in_may, ids_with}
use Rattle.cedar_world.specs.Answer.{Answer, ids_of, has_id}
use Rattle.cedar_world.specs.Answers as world
use Rattle.cedar_world.specs.Standing.{Says, ErrOnce, AnswersAreMade}
use Rattle.cedar_evaluator.specs.Evaluations.{Kept}
use Rattle.cedar_evaluator.specs.Responses.{Holding, holding_of, judged_held}
use Rattle.cedar_evaluator.proofs.Counted.{CountAlike, same_decision, must_pass, must_pass_back, may_pass, may_pass_back}
use Rattle.cedar_evaluator.proofs.Grouped.{all_count_alike, errs, none_errs}
use Rattle.cedar_evaluator.proofs.Lists.{contained}
use Rattle.cedar_evaluator.proofs.Standings.{judged}

-- none errs among those that a response holds
pub err_once_held : (h : Holding) → ErrOnce (judged_held h)
err_once_held h id k l (j, c, is, e) other = absurd (true≢false (sym (ap errs e) ∙ none_errs h j (contained (judged_held h) j c)))

module _ (ks : List Kept) where
  abbrev held : List Judged
  held = judged_held (holding_of ks)

  abbrev js : List Judged
  js = map judged ks

  alike : CountAlike held js
  alike = all_count_alike ks

  -- ---- the answer

  -- an answer that has what a response says, and the errors, says what the rules say of the policies
  pub says_rules : AnswersAreMade → ErrOnce js → (answer : Answer) → answer.decision ≡ decision held → answer.must ≡ ids_of (ids_with (in_must held) held) → answer.may ≡ ids_of (ids_with (in_may held) held) →
      answer.erring ≡ finite.from_entries (world.errors_of js) → Says js answer
  says_rules made once answer decides must may erring =
      let of_held = made held (err_once_held (holding_of ks)) in
      let of_kept = made js once in
      record {
        decision = decides ∙ same_decision held js alike;
        must = λ id. (
          λ h. must_pass held js alike id ((of_held.must id).0 (sym (ap (λ m. has_id m id) must) ∙ h)),
          λ h. ap (λ m. has_id m id) must ∙ (of_held.must id).1 (must_pass_back held js alike id h),
        );
        may = λ id. (
          λ h. may_pass held js alike id ((of_held.may id).0 (sym (ap (λ m. has_id m id) may) ∙ h)),
          λ h. ap (λ m. has_id m id) may ∙ (of_held.may id).1 (may_pass_back held js alike id h),
        );
        erring = λ id k. (
          λ h. (of_kept.erring id k).0 (sym (ap (λ m. finite.get m id) erring) ∙ h),
          λ h. ap (λ m. finite.get m id) erring ∙ (of_kept.erring id k).1 h,
        );
      }
