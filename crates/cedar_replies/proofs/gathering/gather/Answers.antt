-- Where the text doesn't fit, what was gathered is put, and then the text.
use Rattle.cedar_replies.proofs.Gathered.{all_put}
use Rattle.cedar_replies.proofs.gathering.gather.Goals as goal

pub returns-in-Err : goal.returns-in-Err
returns-in-Err g c = λ start past all.
    let gathered = rw c.in-Err.ensures.err at c.put_gathered.ensures in
    let text = rw c.as_bytes.ensures.value at c.put.ensures in
    all_put _ _ _ _ _ _ _ _ c.args.gathered.now.bytes _ past c.args.text.now all gathered text c.clear.ensures
