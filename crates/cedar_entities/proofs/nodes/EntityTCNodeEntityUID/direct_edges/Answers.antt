-- A list of all parents has the direct edges: the walk gives each of them.
use Rattle.cedar_entities.proofs.UidLemmas.{listed_all}
use Rattle.cedar_entities.proofs.nodes.EntityTCNodeEntityUID.direct_edges.Goals as goal

pub returns : goal.returns
returns c = listed_all _ _ _ _ c.args.self.now.parents c.loop-uid.invariant c.in-None.ensures.steps.0 c.into_iter-uid-iterator.ensures.into_iter_gives c.parents-uid-items.ensures.listed.members
