-- What is gathered so far is that of the ids so far.
use Rattle.std.proofs.Common.{ℕ, List, ◌++◌, take}
use Rattle.cedar_frames.specs.declared.watched.Watched.{Watched}
use Rattle.cedar_replies.specs.Gathering.{WritesAll}
use Rattle.cedar_replies.specs.Lines.{reopened}
use Rattle.cedar_replies.proofs.lines.gather_more_ids.Given as goal

abbrev pub invariant-loop-id : goal.invariant-loop-id
invariant-loop-id g l = (start : Watched _) (past : List ℕ) → WritesAll g.W.Write.contents start l.fn.writer l.fn.gathered.bytes past → WritesAll g.W.Write.contents start l.writer l.gathered.bytes (past ++ reopened (take l.id-index l.ids))
