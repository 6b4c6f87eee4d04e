-- What is left of the test and of both branches, by what is left of each.
use Rattle.std.proofs.Common.{◌≡◌, ◌∙◌, ap, sym}
use Rattle.std.specs.Prelude.{⊤}
use Rattle.either.specs.declared.Either.TheVariants.{Right}
use Rattle.cedar_language.specs.Tree as tree
use Rattle.cedar_partial_evaluation.specs.Partial.{ResidualTree, Failed, best_effort as effort}
use Rattle.cedar_trees.specs.Bare.{bare}
use Rattle.cedar_trees.specs.declared.expr.Expr.{Expr}
use Rattle.cedar_extensions.specs.Failures.{failure_of}
use Rattle.cedar_extensions.specs.Giving.{fails_on}
use Rattle.cedar_restricted.specs.PartialValues.{partial_of}
use Rattle.cedar_restricted.specs.declared.partial_values.PartialValue.{PartialValue}
use Rattle.cedar_interpreter.specs.Meeting.{part_answer}
use Rattle.cedar_interpreter.proofs.Steps.{passed}
use Rattle.cedar_interpreter.proofs.lazy.open_if.Goals as goal

pub returns-in_err-then_expr-clause-found : goal.returns-in_err-then_expr-clause-found
returns-in_err-then_expr-clause-found c =
    λ facts y z h i. passed (λ (p : PartialValue). ResidualTree (tree.If (bare c.args.rest) (effort facts y (bare c.args.yes_original.now.value)) (effort facts z (bare c.args.no_original.now.value))) ≡ part_answer (partial_of p)) (λ k. ResidualTree (tree.If (bare c.args.rest) (effort facts y (bare c.args.yes_original.now.value)) (effort facts z (bare c.args.no_original.now.value))) ≡ Failed k) ⊤ c.in_err-then_expr.field-0.0 c.from_residual.result c.from_residual.ensures
    (fails_on (failure_of c.in_err-then_expr.field-0.0) (λ k e. absurd e) (λ d. d) (c.in_err-then_expr.ensures.found facts y h))

pub returns-in_err-else_expr-clause-found : goal.returns-in_err-else_expr-clause-found
returns-in_err-else_expr-clause-found c =
    λ facts y z h i. passed (λ (p : PartialValue). ResidualTree (tree.If (bare c.args.rest) (effort facts y (bare c.args.yes_original.now.value)) (effort facts z (bare c.args.no_original.now.value))) ≡ part_answer (partial_of p)) (λ k. ResidualTree (tree.If (bare c.args.rest) (effort facts y (bare c.args.yes_original.now.value)) (effort facts z (bare c.args.no_original.now.value))) ≡ Failed k) ⊤ c.in_err-else_expr.field-0.0 c.from_residual-in_err-else_expr.result c.from_residual-in_err-else_expr.ensures
    (fails_on (failure_of c.in_err-else_expr.field-0.0) (λ k e. absurd e) (λ d. d) (c.in_err-else_expr.ensures.found facts z i))

pub returns-clause-found : goal.returns-clause-found
returns-clause-found c =
    λ facts y z h i.
    let made = c.ite_arc.ensures
    ∙ ap (λ (e : Expr (Unit {0})). tree.If (bare e) (bare c.in_ok-then_expr.then_expr.value) (bare c.in_ok-else_expr.else_expr.value)) c.in_ok-test_expr.ensures.ok
    ∙ ap (λ t. tree.If (bare c.args.rest) t (bare c.in_ok-else_expr.else_expr.value)) (c.in_ok-then_expr.ensures.found facts y h)
    ∙ ap (tree.If (bare c.args.rest) (effort facts y (bare c.args.yes_original.now.value))) (c.in_ok-else_expr.ensures.found facts z i) in
    sym (ap part_answer (c.from.ensures ∙ ap Right made))
