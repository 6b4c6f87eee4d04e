-- An expression counts itself, so it is read within the whole limit; no token may be left behind it.
use Rattle.std.proofs.Common.{sym}
use Rattle.std.proofs.lemmas.Result.{err_from_is_err_and}
use Rattle.cedar_grammar.specs.LooseReading.{whole, expr_at}
use Rattle.cedar_cst.specs.View.{shown_expr}
use Rattle.cedar_loose.proofs.Loops.{first_fails}
use Rattle.cedar_loose.proofs.Limits.{all_read, not_all_read}
use Rattle.cedar_loose.proofs.parse.expr_of.Goals as goal

pub returns-in_err-tree : goal.returns-in_err-tree
returns-in_err-tree c =
    let p = err_from_is_err_and c.from_residual.result c.from_residual.ensures.1 in
    rw (p.1, p.2, sym c.new-cursor.ensures) (first_fails c.in_err-tree.field-0.0 (expr_at c.args.depth c.new-cursor.result) whole c.in_err-tree.ensures)

pub returns-in_err-finish : goal.returns-in_err-finish
returns-in_err-finish c =
    let p = err_from_is_err_and c.from_residual-in_err-finish.result c.from_residual-in_err-finish.ensures.1 in
    rw (p.1, p.2, sym c.new-cursor.ensures) (not_all_read (expr_at c.args.depth c.new-cursor.result) (shown_expr c.in_ok-tree.tree) c.expr.new.self c.in_ok-tree.ensures c.in_err-finish.field-0.0 c.in_err-finish.ensures)

pub returns : goal.returns
returns c = rw (sym c.new-cursor.ensures) (all_read (expr_at c.args.depth c.new-cursor.result) (shown_expr c.in_ok-tree.tree) c.expr.new.self c.in_ok-tree.ensures c.in_ok-finish.ensures)
