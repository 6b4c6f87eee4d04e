-- An answer under a left operand that decides nothing: by what is tested of it.
use Rattle.std.proofs.Common.{◌≡◌, ◌∙◌, ap, sym, subst, true}
use Rattle.std.specs.Prelude.{⊤}
use Rattle.either.specs.declared.Either.TheVariants.{Right}
use Rattle.cedar_language.specs.Tree as tree
use Rattle.cedar_language.specs.Tree.{Lit, Boolean}
use Rattle.cedar_partial_evaluation.specs.Partial.{Failed, last_answer}
use Rattle.cedar_trees.specs.Bare.{bare}
use Rattle.cedar_trees.specs.declared.expr.Expr.{Expr}
use Rattle.cedar_extensions.specs.Failures.{failure_of}
use Rattle.cedar_extensions.specs.Giving.{fails_on}
use Rattle.cedar_restricted.specs.PartialValues.{partial_of}
use Rattle.cedar_restricted.specs.declared.partial_values.PartialValue.{PartialValue}
use Rattle.cedar_interpreter.specs.Meeting.{part_answer, IsTested, tested_answer}
use Rattle.cedar_interpreter.proofs.Steps.{passed, last_as}
use Rattle.cedar_interpreter.proofs.lazy.last_of_and.Goals as goal

pub returns-in_err-test_answer-clause-found : goal.returns-in_err-test_answer-clause-found
returns-in_err-test_answer-clause-found c =
    λ y h. passed (λ (p : PartialValue). last_answer (tree.And (Lit (Boolean true))) y ≡ part_answer (partial_of p)) (λ k. last_answer (tree.And (Lit (Boolean true))) y ≡ Failed k) ⊤ c.in_err-test_answer.field-0.0 c.from_residual.result c.from_residual.ensures
    (fails_on (failure_of c.in_err-test_answer.field-0.0) (λ k e. last_as (tree.And (Lit (Boolean true))) y (Failed k) e) (λ d. d) (c.in_err-test_answer.ensures.found y h))

pub returns-in-No-clause-found : goal.returns-in-No-clause-found
returns-in-No-clause-found c =
    λ y h. last_as (tree.And (Lit (Boolean true))) y _ (subst (IsTested (tested_answer y)) c.in-No.is (c.in_ok-test_answer.ensures.found y h)) ∙ sym c.truth.ensures

pub returns-in-Yes-clause-found : goal.returns-in-Yes-clause-found
returns-in-Yes-clause-found c =
    λ y h. last_as (tree.And (Lit (Boolean true))) y _ (subst (IsTested (tested_answer y)) c.in-Yes.is (c.in_ok-test_answer.ensures.found y h)) ∙ sym c.truth-in-Yes.ensures

pub returns-in_ok-right-in-Open-clause-found : goal.returns-in_ok-right-in-Open-clause-found
returns-in_ok-right-in-Open-clause-found c =
    λ y h.
    let found = subst (IsTested (tested_answer y)) c.in-Open.is (c.in_ok-test_answer.ensures.found y h) in
    let made : bare c.both_true.result ≡ tree.And (Lit (Boolean true)) (bare c.in-Open.rest) = c.both_true.ensures ∙ ap (λ (e : Expr (Unit {0})). tree.And (bare e) (bare c.in_ok-right-in-Open.right.value)) c.in_ok-left-in-Open.ensures.ok ∙ ap (λ t. tree.And t (bare c.in_ok-right-in-Open.right.value)) c.val.ensures ∙ ap (λ (e : Expr (Unit {0})). tree.And (Lit (Boolean true)) (bare e)) c.in_ok-right-in-Open.ensures.ok in
    last_as (tree.And (Lit (Boolean true))) y _ found ∙ sym (ap part_answer (c.from.ensures ∙ ap Right made))
