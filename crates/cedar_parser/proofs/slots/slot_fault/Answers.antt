-- A walk meets a slot exactly where the tree holds one, and the first that it meets is told.
use Rattle.std.proofs.Common.{sym, ◌∙◌}
use Rattle.cedar_trees.specs.Bare.{bare}
use Rattle.cedar_shapes.proofs.HeldSlots.{none_met}
use Rattle.cedar_parser.proofs.NoSlots.{met_shown}
use Rattle.cedar_parser.proofs.slots.slot_fault.Goals as goal

pub returns-in-None : goal.returns-in-None
returns-in-None c = none_met (bare c.args.expr.now) (sym c.in_ok-slots.ensures ∙ c.in-None.ensures.steps.0)

pub returns : goal.returns
returns c =
    met_shown (bare c.args.expr.now) c.in-Some.slot.id _ c.in_ok-fault_of-in-Some.field-0.kind (sym c.in_ok-slots.ensures ∙ c.in-Some.ensures.steps) c.in_ok-fault_of-in-Some.ensures.kind
