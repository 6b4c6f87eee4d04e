-- The uids that are kept beside the parents, or are some of them, are more edges.
use Rattle.std.proofs.lemmas.Result.{on_ok_weaker}
use Rattle.cedar_entities.proofs.UidLemmas.{edges_with_all}
use Rattle.cedar_entities.proofs.nodes.EntityTCNodeEntityUID.add_edges_to.Goals as goal

pub returns-clause-added : goal.returns-clause-added
returns-clause-added g c = on_ok_weaker c.add_indirect_ancestors.result (edges_with_all c.args.keys.items c.args.self.now c.add_indirect_ancestors.new.self) c.add_indirect_ancestors.ensures.added
