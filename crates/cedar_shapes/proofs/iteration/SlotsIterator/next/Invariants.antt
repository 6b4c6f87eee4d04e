-- A position that holds no slot can be passed over: the slots that are left stay the same.
use Rattle.std.proofs.Common.{◌≡◌, length}
use Rattle.cedar_shapes.specs.PositionsLeft.{positions_left, slots_left}
use Rattle.cedar_shapes.proofs.iteration.SlotsIterator.next.Given as goal

abbrev pub invariant-loop-expr : goal.invariant-loop-expr
invariant-loop-expr g l = slots_left l.initial.self ≡ slots_left l.self

abbrev pub decreases-loop-expr : goal.decreases-loop-expr
decreases-loop-expr g l = length (positions_left l.self.positions)
