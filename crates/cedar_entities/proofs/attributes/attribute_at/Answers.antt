-- Either look-up finds what the map that contracts see has (Entries).
use Rattle.std.proofs.Common.{refl}
use Rattle.cedar_entities.proofs.Entries.{shown_at, shown_found}
use Rattle.cedar_entities.proofs.attributes.attribute_at.Goals as goal

pub returns-then-len-le-FEW : goal.returns-then-len-le-FEW
returns-then-len-le-FEW c = shown_found c.args.attributes.now.entries c.args.name.now c.attribute_named.result c.attribute_named.ensures

pub returns : goal.returns
returns c = shown_at c.args.attributes.now c.args.attributes.now c.args.name.now c.get.result refl c.get.ensures.value
