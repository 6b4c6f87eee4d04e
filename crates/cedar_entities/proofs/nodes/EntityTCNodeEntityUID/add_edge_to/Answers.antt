-- A uid that is kept beside the parents, or is one of them, is one more edge.
use Rattle.std.proofs.lemmas.Result.{on_ok_weaker}
use Rattle.cedar_entities.proofs.UidLemmas.{edges_with}
use Rattle.cedar_entities.proofs.nodes.EntityTCNodeEntityUID.add_edge_to.Goals as goal

pub returns-clause-added : goal.returns-clause-added
returns-clause-added c = on_ok_weaker c.add_indirect_ancestor.result (edges_with c.args.k c.args.self.now c.add_indirect_ancestor.new.self) c.add_indirect_ancestor.ensures.added
