-- The list holds what contracts see.
use Rattle.cedar_entities.proofs.entity.Entity.is_indirect_descendant_of.Goals as goal

pub returns : goal.returns
returns c = rw (← c.self.view_is) c.contains.ensures
