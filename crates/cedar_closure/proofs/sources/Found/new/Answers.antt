-- No key was found.
use Rattle.std.proofs.Common.{ap, map}
use Rattle.std.specs.Map.Iter.{deref}
use Rattle.cedar_closure.proofs.Leading.{seen_begins}
use Rattle.cedar_closure.proofs.sources.Found.new.Goals as goal

pub returns-clause-seen : goal.returns-clause-seen
returns-clause-seen g c = seen_begins g.K.PartialEq.eq g.K.Ord.cmp (map deref c.new.result.items) c.new-2.result (ap (map deref) c.new.ensures.items) c.new-2.ensures.empty
