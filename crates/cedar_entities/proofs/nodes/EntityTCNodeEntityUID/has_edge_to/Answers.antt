-- A set holds what the list of its members does.
use Rattle.std.proofs.Common.{◌∙◌}
use Rattle.cedar_entities.proofs.UidLemmas.{contains-items}
use Rattle.cedar_entities.specs.Data.{ancestors_of}
use Rattle.cedar_entities.proofs.nodes.EntityTCNodeEntityUID.has_edge_to.Goals as goal

pub returns : goal.returns
returns c = c.is_descendant_of.ensures ∙ contains-items (ancestors_of c.args.self.now) c.args.k.now
