use Rattle.std.proofs.Common.{◌≤◌}
use Rattle.cedar_trees.specs.declared.expr.Expr.{size-Expr}
use Rattle.cedar_trees.proofs.expr.Expr.+drop.Given as goal

abbrev pub invariant-loop-literal : goal.invariant-loop-literal
invariant-loop-literal g l = size-Expr g.row.T.Denot l.self ≤ size-Expr g.row.T.Denot l.initial.self
