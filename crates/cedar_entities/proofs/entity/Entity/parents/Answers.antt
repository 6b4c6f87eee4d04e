-- A list that rises has each uid once.
use Rattle.cedar_entities.proofs.UidLemmas.{list_rising}
use Rattle.cedar_entities.proofs.entity.Entity.parents.Goals as goal

pub returns-clause-listed : goal.returns-clause-listed
returns-clause-listed c = rw (← c.self.view_is) (list_rising c.iter.result c.self.inside.parents c.iter.ensures.rising c.iter.ensures.listed)
