-- The entries of the shared map, as contracts see them.
use Rattle.cedar_entities.proofs.Entries.{shown_entries}
use Rattle.cedar_entities.proofs.entity.Entity.tags.Goals as goal

pub returns : goal.returns
returns c = rw (← c.self.view_is) (shown_entries c.deref.result.now c.self.inside.tags.value c.iter.result c.deref.ensures c.iter.ensures.rest c.iter.ensures.ordered)
