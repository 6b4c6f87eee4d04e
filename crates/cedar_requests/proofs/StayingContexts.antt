-- A context that was evaluated of a record, and of which values are told, is the record evaluated where these are held.
use Rattle.std.proofs.Common.{◌≡◌, ◌∙◌, ℕ, true, false, Option, Some, None, List, Result, Ok, Err, refl, sym, ap, subst}
use Rattle.std.specs.FinMap as finite
use Rattle.std.specs.FinMap.{get-empty}
use Rattle.std.specs.declared.alloc.Global.{Global}
use Rattle.std.specs.declared.rc.RcStr.{RcStr}
use Rattle.either.specs.declared.Either.{Either}
use Rattle.either.specs.declared.Either.TheVariants.{Left, Right}
use Rattle.cedar_language.specs.Facts.{Facts}
use Rattle.cedar_language.specs.Order.{text_cmp}
use Rattle.cedar_language.specs.Restricted.{is_restricted}
use Rattle.cedar_language.specs.Tree.{Tree}
use Rattle.cedar_language.specs.Uid.{Text}
use Rattle.cedar_language.specs.Value.{Value, Kind}
use Rattle.cedar_partial_evaluation.specs.DataErrors.{HasErringPart, DataErrsInParts}
use Rattle.cedar_partial_evaluation.specs.Leaves.{LeavesDontMatter}
use Rattle.cedar_partial_evaluation.specs.MadeAgain.{HoldsMade}
use Rattle.cedar_partial_evaluation.specs.Partial.{Answer, ResidualTree, Failed, best_effort, partial_in}
use Rattle.cedar_partial_evaluation.specs.Question.{Told, AreMadeTold, name_held, held_names}
use Rattle.cedar_partial_evaluation.specs.ReadUnknowns.{calls_unknown}
use Rattle.cedar_partial_evaluation.specs.Telling.{ContextsStay}
use Rattle.cedar_extensions.specs.Failures.{failure_of}
use Rattle.cedar_extensions.specs.Giving.{GivesBy, fails_on}
use Rattle.cedar_extensions.specs.Table.{Table}
use Rattle.cedar_extensions.specs.declared.evaluation_error.EvaluationError.{EvaluationError}
use Rattle.cedar_restricted_evaluation.specs.Evaluations.{HasFunctions, part_answer}
use Rattle.cedar_requests.specs.Contexts.{context_part}
use Rattle.cedar_requests.specs.Telling.{TellsContext}
use Rattle.cedar_requests.specs.ToldContexts.{HoldTold, StatesNoType, ToldContextsAreEvaluated, IsToldHigher, ToldContextsStay}
use Rattle.cedar_requests.specs.declared.contexts.Context.{Context}
use Rattle.cedar_requests.proofs.KnownData.{data_stays}
use Rattle.cedar_requests.proofs.Waiting.{IsDataTree, IsDataAnswer, left_data}

none_told : (n : Text) (v : Value) → finite.get {R = text_cmp} finite.empty n ≡ Some v → ⊥
none_told n v h = let no : ◌≡◌ {A = Option Value} None (Some v) = sym (get-empty text_cmp n) ∙ h in cc

not_failed : (p : Either Value Tree) (k : Kind) → part_answer p ≡ Failed k → ⊥
not_failed (Left v) k h = cc
not_failed (Right t) k h = cc

module _ (apart : LeavesDontMatter) (stay : ContextsStay) (tell : ToldContextsAreEvaluated) (parts : DataErrsInParts)
    (table : Table) (depth : ℕ) (entries : List (RcStr Global × Value)) (told : Told) (same : HoldTold entries told) (facts : Facts) (served : HasFunctions table facts) (good : HoldsMade facts) (made : AreMadeTold facts told)
    (written : Tree) (given : is_restricted written ≡ true) (untyped : StatesNoType written) where
  abbrev first : Answer
  first = partial_in facts (held_names finite.empty) written

  abbrev later : Answer
  later = partial_in facts (held_names told) written

  left_is_data : (t : Tree) → ResidualTree t ≡ first → IsDataTree t
  left_is_data t e =
      subst IsDataAnswer (sym e)
      (left_data facts (held_names finite.empty)
      (λ n ty u. subst (λ (o : Option Value). IsDataAnswer (name_held o n ty)) (sym (get-empty text_cmp n)) (refl, u))
      written given untyped)

  left_again : (t : Tree) → ResidualTree t ≡ first → partial_in facts (held_names told) t ≡ later
  left_again t e =
      ap (λ (a : Answer). partial_in facts (held_names told) (best_effort facts a written)) e
      ∙ stay facts good finite.empty told (λ n v h. absurd (none_told n v h)) (λ n v h. absurd (none_told n v h)) made written given

  abbrev Answers : Either Value Tree → Result Context EvaluationError → Type 0
  Answers p result = GivesBy (λ c. part_answer (context_part c) ≡ later) (λ k. later ≡ Failed k) (IsToldHigher depth entries p) result

  told_answers : (p : Either Value Tree) → part_answer p ≡ first → ((t : Tree) → p ≡ Right t → table.has_unknown ≡ true → calls_unknown t ≡ false) → (result : Result Context EvaluationError) → TellsContext table depth entries p result → Answers p result
  told_answers (Left v) e plain (Ok c) tells = ap part_answer tells ∙ sym (data_stays facts apart written given v (sym e) told)
  told_answers (Left v) e plain (Err error) tells = absurd tells
  told_answers (Right t) e plain result tells =
      subst (λ (a : Answer). GivesBy (λ c. part_answer (context_part c) ≡ a) (λ k. a ≡ Failed k) (IsToldHigher depth entries (Right t)) result) (left_again t e)
      (tell table depth entries told same t (left_is_data t e).0 (left_is_data t e).1 (plain t refl) result tells facts served made)

  told_errs : (p : Either Value Tree) (result : Result Context EvaluationError) → Answers p result → GivesBy (λ c. HasErringPart facts told written → ⊥) (λ k. HasErringPart facts told written) (IsToldHigher depth entries p) result
  told_errs p (Ok c) is = λ errs. let (k, fails) = (parts facts told written given).1 errs in not_failed (context_part c) k (is ∙ fails)
  told_errs p (Err error) fails = fails_on (failure_of error) (λ k h. (parts facts told written given).0 (k, h)) (λ x. x) fails

pub told_stay : LeavesDontMatter → ContextsStay → ToldContextsAreEvaluated → DataErrsInParts → ToldContextsStay
told_stay apart stay tell parts = λ table depth entries told same facts served good made written given untyped p is plain result tells.
    let answers = told_answers apart stay tell parts table depth entries told same facts served good made written given untyped p is plain result tells in
    record { answers = answers; errs = told_errs apart stay tell parts table depth entries told same facts served good made written given untyped p result answers }
