-- Each character is added on the line (Below).
use Rattle.std.proofs.Common.{string_bytes, refl}
use Rattle.cedar_messages.specs.Telling.{IsLine}
use Rattle.cedar_messages.proofs.Below.{both_added, line_more, nothing_added}
use Rattle.cedar_messages.proofs.telling.push_on_line.Goals as goal

pub loop-c-init : goal.loop-c-init
loop-c-init c = nothing_added IsLine (string_bytes c.args.told.now) refl

pub loop-c-preserved : goal.loop-c-preserved
loop-c-preserved c =
    both_added IsLine line_more (string_bytes c.args.told.now) (string_bytes c.loop-c.told) (string_bytes c.push_visible.new.told)
    c.loop-c.invariant c.in_ok-push_visible.ensures
