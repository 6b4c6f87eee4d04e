-- A list of all ancestors has the edges: the walk gives each of them.
use Rattle.cedar_entities.specs.Data.{ancestors_of}
use Rattle.cedar_entities.proofs.UidLemmas.{listed_all}
use Rattle.cedar_entities.proofs.nodes.EntityTCNodeEntityUID.out_edges.Goals as goal

pub returns : goal.returns
returns c = listed_all _ _ _ _ (ancestors_of c.args.self.now) c.loop-uid.invariant c.in-None.ensures.steps.0 c.into_iter-uid-iterator.ensures.into_iter_gives c.ancestors-uid-items.ensures.listed.members
