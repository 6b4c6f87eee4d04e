-- What walks still give.
use Rattle.std.specs.Prelude.{List, Option}
use Rattle.cedar_language.specs.Uid.{Text}
use Rattle.cedar_language.specs.Tree.{Tree, SlotId, ValueType}
use Rattle.cedar_shapes.specs.Positions.{waiting}
use Rattle.cedar_shapes.specs.Stack.{stack_of}
use Rattle.cedar_shapes.specs.Leaves.{slots_among, unknowns_among}
use Rattle.cedar_shapes.specs.declared.iteration.ExprIterator.{ExprIterator}
use Rattle.cedar_shapes.specs.declared.iteration.Slots.{Slots}
use Rattle.cedar_shapes.specs.declared.iteration.Unknowns.{Unknowns}

-- the trees at the positions that are still to come
abbrev pub positions_left : {T : Type 0} → ExprIterator T → List Tree
positions_left it = waiting (stack_of it.ahead.items)

abbrev pub slots_left : {T : Type 0} → Slots T → List SlotId
slots_left it = slots_among (positions_left it.positions)

abbrev pub unknowns_left : {T : Type 0} → Unknowns T → List (Text × Option ValueType)
unknowns_left it = unknowns_among (positions_left it.positions)
