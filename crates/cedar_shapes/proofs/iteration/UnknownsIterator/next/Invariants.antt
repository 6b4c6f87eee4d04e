-- A position that holds no unknown can be passed over: the unknowns that are left stay the same.
use Rattle.std.proofs.Common.{◌≡◌, length}
use Rattle.cedar_shapes.specs.PositionsLeft.{positions_left, unknowns_left}
use Rattle.cedar_shapes.proofs.iteration.UnknownsIterator.next.Given as goal

abbrev pub invariant-loop-expr : goal.invariant-loop-expr
invariant-loop-expr g l = unknowns_left l.initial.self ≡ unknowns_left l.self

abbrev pub decreases-loop-expr : goal.decreases-loop-expr
decreases-loop-expr g l = length (positions_left l.self.positions)
