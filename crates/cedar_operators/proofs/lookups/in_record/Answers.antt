-- The map's entry is what the record has.
use Rattle.cedar_operators.proofs.ByLookup.{entry_found, entry_missing}
use Rattle.cedar_operators.proofs.lookups.in_record.Goals as goal

pub returns-in-Some : goal.returns-in-Some
returns-in-Some c = entry_found c.args.fields.now.entries c.args.attr.now c.in-Some.value.now c.in-Some.ensures.value

pub returns-in-None : goal.returns-in-None
returns-in-None c = entry_missing c.args.fields.now.entries c.args.attr.now c.in-None.ensures.value
