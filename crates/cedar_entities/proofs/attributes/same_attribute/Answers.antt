-- Two values are equal where their models are.
use Rattle.cedar_entities.proofs.SameMaps.{same_values}
use Rattle.cedar_entities.proofs.attributes.same_attribute.Goals as goal

pub returns-in-Value-Value : goal.returns-in-Value-Value
returns-in-Value-Value c = rw (c.in-Value-Value.is-0, c.in-Value-Value.is-1) (same_values c.in-Value-Value.x c.in-Value-Value.y c.eq.result c.eq.ensures)
