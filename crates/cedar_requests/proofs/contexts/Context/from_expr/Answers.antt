-- An error of the evaluation is that of the context's making, and want of memory stays what it is.
use Rattle.std.proofs.Common.{rules, ◌≡◌, true, sym, subst}
use Rattle.std.specs.Prelude.{Err}
use Rattle.cedar_extensions.specs.Table.{as_table}
use Rattle.cedar_restricted.specs.Views.{borrowed_tree}
use Rattle.cedar_requests.specs.Contexts.{is_record as is_record_tree}
use Rattle.cedar_requests.specs.Creating.{Creates}
use Rattle.cedar_requests.proofs.Refusing.{at_err, evaluation_refused}
use Rattle.cedar_requests.proofs.contexts.Context.from_expr.Goals as goal

pub returns-in_err-evaluated : goal.returns-in_err-evaluated
returns-in_err-evaluated g c =
    let table = as_table g.F.ExtensionFunctionObject.answers c.args.extensions.now in
    let t = borrowed_tree c.args.expr in
    let written : is_record_tree (borrowed_tree c.args.expr) ≡ true = search rules in
    at_err (Creates table c.args.depth t) _ c.from_residual-in_err-evaluated.result c.from_residual-in_err-evaluated.ensures.1 (λ e is. subst (λ y. Creates table c.args.depth t (Err y)) (sym is)
    (evaluation_refused table c.args.depth t c.in_err-evaluated.field-0.0 written c.in_err-evaluated.ensures.meaning c.in_err-evaluated.ensures.answer))
