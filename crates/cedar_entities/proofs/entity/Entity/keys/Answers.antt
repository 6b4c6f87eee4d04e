-- The names of the shared map, as contracts see them.
use Rattle.cedar_entities.proofs.Entries.{shown_names}
use Rattle.cedar_entities.proofs.entity.Entity.keys.Goals as goal

pub returns : goal.returns
returns c = rw (← c.self.view_is) (shown_names c.deref.result.now c.self.inside.attrs.value c.keys.result c.deref.ensures c.keys.ensures.rest c.keys.ensures.ordered)
