-- What is left of both operands, by what is left of each.
use Rattle.std.proofs.Common.{◌≡◌, ◌∙◌, ap, sym}
use Rattle.std.specs.Prelude.{⊤}
use Rattle.either.specs.declared.Either.TheVariants.{Right}
use Rattle.cedar_language.specs.Tree as tree
use Rattle.cedar_partial_evaluation.specs.Partial.{ResidualTree, Failed, best_effort as effort}
use Rattle.cedar_trees.specs.Bare.{bare}
use Rattle.cedar_trees.specs.declared.expr.Expr.{Expr}
use Rattle.cedar_extensions.specs.Failures.{failure_of}
use Rattle.cedar_extensions.specs.Giving.{fails_on}
use Rattle.cedar_restricted.specs.PartialValues.{partial_of}
use Rattle.cedar_restricted.specs.declared.partial_values.PartialValue.{PartialValue}
use Rattle.cedar_interpreter.specs.Meeting.{part_answer}
use Rattle.cedar_interpreter.proofs.Steps.{passed}
use Rattle.cedar_interpreter.proofs.lazy.open_and.Goals as goal

pub returns-in_err-right-clause-found : goal.returns-in_err-right-clause-found
returns-in_err-right-clause-found c =
    λ facts y h. passed (λ (p : PartialValue). ResidualTree (tree.And (bare c.args.rest) (effort facts y (bare c.args.original.now.value))) ≡ part_answer (partial_of p)) (λ k. ResidualTree (tree.And (bare c.args.rest) (effort facts y (bare c.args.original.now.value))) ≡ Failed k) ⊤ c.in_err-right.field-0.0 c.from_residual.result c.from_residual.ensures
    (fails_on (failure_of c.in_err-right.field-0.0) (λ k e. absurd e) (λ d. d) (c.in_err-right.ensures.found facts y h))

pub returns-clause-found : goal.returns-clause-found
returns-clause-found c =
    λ facts y h.
    let made = c.both_true.ensures ∙ ap (λ (e : Expr (Unit {0})). tree.And (bare e) (bare c.in_ok-right.right.value)) c.in_ok-left.ensures.ok ∙ ap (tree.And (bare c.args.rest)) (c.in_ok-right.ensures.found facts y h) in
    sym (ap part_answer (c.from.ensures ∙ ap Right made))
