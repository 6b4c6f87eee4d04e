-- One name more is listed (Gathered).
use Rattle.cedar_telling.proofs.Gathered.{listed_more}
use Rattle.cedar_telling.proofs.asked_names.list.Goals as goal

pub returns : goal.returns
returns c = λ n. listed_more c.args.set.now c.insert.new.self c.args.name n c.in_ok-insert.ensures.updates
