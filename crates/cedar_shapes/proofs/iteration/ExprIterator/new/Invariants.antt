use Rattle.std.proofs.Common.{◌≤◌, max, length}
use Rattle.std.specs.Vec.{vec_capacity}
use Rattle.cedar_trees.specs.Bare.{bare}
use Rattle.cedar_shapes.specs.Positions.{waiting, need, need_all}
use Rattle.cedar_shapes.specs.Stack.{stack_of}
use Rattle.cedar_shapes.proofs.iteration.ExprIterator.new.Given as goal

abbrev pub invariant-loop-next : goal.invariant-loop-next
invariant-loop-next g l = need (bare l.expr) ≤ max (vec_capacity l.ahead) (need_all (stack_of l.ahead.items))

abbrev pub decreases-loop-next : goal.decreases-loop-next
decreases-loop-next g l = length (waiting (stack_of l.ahead.items))
