-- One line more (Below).
use Rattle.std.proofs.Common.{string_bytes}
use Rattle.cedar_messages.specs.Telling.{AreBelow}
use Rattle.cedar_messages.proofs.Below.{below_more, both_added, nothing_added, nothing_below}
use Rattle.cedar_authoring.proofs.wrong.push_faults.Goals as goal

pub loop-line-init : goal.loop-line-init
loop-line-init g c = nothing_added AreBelow (string_bytes c.args.told.now) nothing_below

pub loop-line-preserved : goal.loop-line-preserved
loop-line-preserved g c =
    both_added AreBelow below_more (string_bytes c.args.told.now) (string_bytes c.loop-line.told) (string_bytes c.push_indented.new.told) c.loop-line.invariant c.in_ok-push_indented.ensures
