-- As policies_of does, of one policy.
use Rattle.std.proofs.Common.{◌-◌, sym, ◌∙◌}
use Rattle.std.proofs.lemmas.Result.{err_from_is_err_and}
use Rattle.cedar_grammar.specs.LooseReading.{◌>>◌, whole, policy_of, read_policy}
use Rattle.cedar_cst.specs.View.{shown_policy}
use Rattle.cedar_loose.proofs.Loops.{first_fails}
use Rattle.cedar_loose.proofs.Cases.{fails_as}
use Rattle.cedar_loose.proofs.Limits.{all_read, not_all_read, policy_within, policy_zero}
use Rattle.cedar_loose.proofs.parse.policy_of.Goals as goal

pub returns-in_err-tree : goal.returns-in_err-tree
returns-in_err-tree c =
    let p = err_from_is_err_and c.from_residual.result c.from_residual.ensures.1 in
    rw (p.1, p.2, sym c.new-cursor.ensures) (fails_as c.in_err-tree.field-0.0 (read_policy c.args.depth c.new-cursor.result) ((policy_of (c.args.depth - 1) c.new-cursor.result) >> whole) (policy_within c.args.depth c.if-depth-eq0.false c.new-cursor.result) (first_fails c.in_err-tree.field-0.0 (policy_of (c.args.depth - 1) c.new-cursor.result) whole c.in_err-tree.ensures))

pub returns-in_err-finish : goal.returns-in_err-finish
returns-in_err-finish c =
    let p = err_from_is_err_and c.from_residual-in_err-finish.result c.from_residual-in_err-finish.ensures.1 in
    rw (p.1, p.2, sym c.new-cursor.ensures) (fails_as c.in_err-finish.field-0.0 (read_policy c.args.depth c.new-cursor.result) ((policy_of (c.args.depth - 1) c.new-cursor.result) >> whole) (policy_within c.args.depth c.if-depth-eq0.false c.new-cursor.result) (not_all_read (policy_of (c.args.depth - 1) c.new-cursor.result) (shown_policy c.in_ok-tree.tree) c.policy.new.cursor c.in_ok-tree.ensures c.in_err-finish.field-0.0 c.in_err-finish.ensures))

pub returns : goal.returns
returns c = rw (sym c.new-cursor.ensures) (policy_within c.args.depth c.if-depth-eq0.false c.new-cursor.result ∙ all_read (policy_of (c.args.depth - 1) c.new-cursor.result) (shown_policy c.in_ok-tree.tree) c.policy.new.cursor c.in_ok-tree.ensures c.in_ok-finish.ensures)

pub returns-then-depth-eq0 : goal.returns-then-depth-eq0
returns-then-depth-eq0 c = rw c.if-depth-eq0.true (policy_zero c.args.tokens.left)
