-- Maps in the order of their names are one where their entries are, and have as many entries then.
use Rattle.cedar_entities.proofs.SameMaps.{same_from_entries, other_lengths}
use Rattle.cedar_entities.proofs.attributes.same_attributes.Goals as goal

pub returns-then-len : goal.returns-then-len
returns-then-len c = same_from_entries c.args.a.now.entries c.args.b.now.entries c.len.ensures.ordered c.len-2.ensures.ordered c.same_entries.result c.same_entries.ensures

pub returns-else-len : goal.returns-else-len
returns-else-len c = other_lengths c.args.a.now.entries c.args.b.now.entries c.len.ensures.ordered c.len-2.ensures.ordered c.len.result c.len-2.result c.len.ensures.len c.len-2.ensures.len c.if-len.false
