-- There are no edges.
use Rattle.cedar_closure.proofs.Turned.{no_edges_there}
use Rattle.cedar_closure.proofs.sources.Sources.new.Goals as goal

pub returns : goal.returns
returns g c = no_edges_there g.K.Ord.cmp (record { by_target = c.new.result }) c.new.ensures.empty
