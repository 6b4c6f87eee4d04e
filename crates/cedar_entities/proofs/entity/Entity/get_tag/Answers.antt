-- A look-up in the shared map is one in the map that contracts see.
use Rattle.std.proofs.Common.{ap, ◌∙◌}
use Rattle.std.specs.FinMap as finite
use Rattle.cedar_entities.specs.Attributes.{attributes_of}
use Rattle.cedar_entities.proofs.Entries.{Map}
use Rattle.cedar_entities.proofs.entity.Entity.get_tag.Goals as goal

pub returns : goal.returns
returns c = rw (← c.self.view_is) (c.attribute_at.ensures ∙ ap (λ (m : Map). finite.get (attributes_of m.entries) c.args.tag.now) c.deref.ensures)
