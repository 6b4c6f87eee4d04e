use Rattle.std.proofs.Common.{take, map}
use Rattle.cedar_frames.specs.Writing.{Writes}
use Rattle.cedar_world.specs.Lines.{further}
use Rattle.cedar_replies.specs.Lines.{with_name}
use Rattle.cedar_replies.proofs.lines.put_more_erring.Given as goal

abbrev pub invariant-loop-entry : goal.invariant-loop-entry
invariant-loop-entry g l = Writes g.W.Write.contents l.fn.writer l.writer (further (map with_name (take l.entry-index l.entries)))
