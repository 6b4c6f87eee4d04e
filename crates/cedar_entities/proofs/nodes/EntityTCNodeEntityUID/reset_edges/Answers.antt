-- Where nothing is kept beside the parents they alone are edges.
use Rattle.cedar_entities.proofs.UidLemmas.{edges_without}
use Rattle.cedar_entities.proofs.nodes.EntityTCNodeEntityUID.reset_edges.Goals as goal

pub returns-clause-reset : goal.returns-clause-reset
returns-clause-reset c = edges_without c.args.self.now c.remove_all_indirect_ancestors.new.self c.remove_all_indirect_ancestors.ensures
