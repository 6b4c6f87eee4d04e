-- As policies_of does, of a primary.
use Rattle.std.proofs.Common.{◌-◌, sym, ◌∙◌}
use Rattle.std.proofs.lemmas.Result.{err_from_is_err_and}
use Rattle.cedar_grammar.specs.LooseReading.{◌>>◌, whole, expr_at, primary_of, read_primary}
use Rattle.cedar_cst.specs.View.{shown_primary}
use Rattle.cedar_loose.proofs.Loops.{first_fails}
use Rattle.cedar_loose.proofs.Cases.{fails_as}
use Rattle.cedar_loose.proofs.Limits.{all_read, not_all_read, primary_within}
use Rattle.cedar_loose.proofs.parse.primary_of.Goals as goal

pub returns-in_err-tree : goal.returns-in_err-tree
returns-in_err-tree c =
    let p = err_from_is_err_and c.from_residual.result c.from_residual.ensures.1 in
    rw (p.1, p.2, sym c.new-cursor.ensures) (fails_as c.in_err-tree.field-0.0 (read_primary c.args.depth c.new-cursor.result) ((primary_of (expr_at (c.args.depth - 1)) c.new-cursor.result) >> whole) (primary_within c.args.depth c.if-depth-eq0.false c.new-cursor.result) (first_fails c.in_err-tree.field-0.0 (primary_of (expr_at (c.args.depth - 1)) c.new-cursor.result) whole c.in_err-tree.ensures))

pub returns-in_err-finish : goal.returns-in_err-finish
returns-in_err-finish c =
    let p = err_from_is_err_and c.from_residual-in_err-finish.result c.from_residual-in_err-finish.ensures.1 in
    rw (p.1, p.2, sym c.new-cursor.ensures) (fails_as c.in_err-finish.field-0.0 (read_primary c.args.depth c.new-cursor.result) ((primary_of (expr_at (c.args.depth - 1)) c.new-cursor.result) >> whole) (primary_within c.args.depth c.if-depth-eq0.false c.new-cursor.result) (not_all_read (primary_of (expr_at (c.args.depth - 1)) c.new-cursor.result) (shown_primary c.in_ok-tree.tree) c.primary.new.self c.in_ok-tree.ensures c.in_err-finish.field-0.0 c.in_err-finish.ensures))

pub returns : goal.returns
returns c = rw (sym c.new-cursor.ensures) (primary_within c.args.depth c.if-depth-eq0.false c.new-cursor.result ∙ all_read (primary_of (expr_at (c.args.depth - 1)) c.new-cursor.result) (shown_primary c.in_ok-tree.tree) c.primary.new.self c.in_ok-tree.ensures c.in_ok-finish.ensures)
