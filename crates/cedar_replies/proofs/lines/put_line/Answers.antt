-- A refusal's line is its word, the name of the refusal and the line feed, one behind the other.
use Rattle.std.proofs.Common.{codes}
use Rattle.cedar_world.specs.Lines.{refusal_name, line_of}
use Rattle.cedar_replies.specs.Refusals.{refusal_of}
use Rattle.cedar_replies.proofs.Lists.{three_put}
use Rattle.cedar_replies.proofs.lines.put_line.Goals as goal

pub returns-in-Err : goal.returns-in-Err
unfolding line_of
returns-in-Err g c =
    let name = rw (c.as_bytes.ensures.value, c.name.ensures) at c.put-in-Err.ensures in
    rw c.in-Err.is (three_put _ _ _ _ _ _ _ _ (codes "refused ") (refusal_name (refusal_of c.in-Err.refusal)) (codes "\n") c.put.ensures name c.put-in-Err-2.ensures)
