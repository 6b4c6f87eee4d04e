-- By the kind of the reply; what is put one behind the other is the line that they make.
use Rattle.std.proofs.Common.{map, codes}
use Rattle.cedar_frames.specs.Quoting.{quoted}
use Rattle.cedar_world.specs.Lines.{listed, line_of}
use Rattle.cedar_replies.proofs.Lists.{three_put}
use Rattle.cedar_replies.proofs.lines.put_reply.Goals as goal

pub returns-in-Done : goal.returns-in-Done
unfolding line_of
returns-in-Done g c = rw c.in-Done.is c.put.ensures

pub returns-in-Ids : goal.returns-in-Ids
unfolding line_of
returns-in-Ids g c =
    let ids = rw c.as_slice.ensures.value at c.put_ids.ensures in
    rw c.in-Ids.is (three_put _ _ _ _ _ _ _ _ (codes "ok ") (listed (map quoted c.in-Ids.ids.items)) (codes "\n") c.put-in-Ids.ensures ids c.put-in-Ids-2.ensures)

pub returns-in-Answer : goal.returns-in-Answer
unfolding line_of
returns-in-Answer g c = rw c.in-Answer.is c.put_answer.ensures
