-- The length of the shared map is that of the map that contracts see.
use Rattle.cedar_entities.proofs.Entries.{shown_len}
use Rattle.cedar_entities.proofs.entity.Entity.attrs_len.Goals as goal

pub returns : goal.returns
returns c = rw (← c.self.view_is) (shown_len c.deref.result.now c.self.inside.attrs.value c.len.result c.deref.ensures c.len.ensures.len c.len.ensures.ordered)
