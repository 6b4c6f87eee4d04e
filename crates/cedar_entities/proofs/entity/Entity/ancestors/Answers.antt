-- The uids of one set, and then those of another that it lacks, are those of both, each once.
use Rattle.cedar_entities.proofs.UidLemmas.{list_in_turn}
use Rattle.cedar_entities.proofs.entity.Entity.ancestors.Goals as goal

pub returns-clause-listed : goal.returns-clause-listed
returns-clause-listed c = rw (← c.self.view_is) (list_in_turn c.self.inside.parents c.self.inside.indirect_ancestors c.followed_by.result c.followed_by.ensures.in_turn)

pub returns-clause-in_turn : goal.returns-clause-in_turn
returns-clause-in_turn c = rw (← c.self.view_is) c.followed_by.ensures.in_turn
