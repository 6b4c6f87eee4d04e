-- The slots that were met and those to come are those of the walk.
use Rattle.std.proofs.Common.{◌≡◌, ◌++◌}
use Rattle.cedar_trees.specs.Bare.{bare}
use Rattle.cedar_shapes.specs.Leaves.{slots_among}
use Rattle.cedar_shapes.specs.Positions.{positions}
use Rattle.cedar_shapes.specs.PositionsLeft.{slots_left}
use Rattle.cedar_policies.specs.Slots.{slot_ids}
use Rattle.cedar_policies.proofs.held_slots.expr_slots.Given as goal

abbrev pub invariant-loop-slot : goal.invariant-loop-slot
invariant-loop-slot l = slot_ids l.met.items ++ slots_left l.slot-iterator ≡ slots_among (positions (bare l.expr))
