use Rattle.std.proofs.Common.{ℕ, List, ◌++◌, ◌≡◌, length}
use Rattle.cedar_frames.specs.Writing.{Writes}
use Rattle.cedar_frames.specs.Quoting.{escaped_all}
use Rattle.cedar_frames.proofs.quoting.put_escaped.Given as goal

abbrev pub invariant-escapes : goal.invariant-escapes
invariant-escapes g l = (done : List ℕ) × (escaped_all l.text ≡ done ++ escaped_all l.rest) × Writes g.W.Write.contents l.fn.writer l.writer done

abbrev pub decreases-escapes : goal.decreases-escapes
decreases-escapes g l = length l.rest
