-- A body is written where the uid, the parents, the attributes and the tags are each found in the fields.
use Rattle.cedar_held.specs.Lent.{fields_in}
use Rattle.cedar_held.proofs.Wholes.{entity_from}
use Rattle.cedar_held.proofs.entities.entity_fields.Goals as goal

pub returns-in-Some-2 : goal.returns-in-Some-2
returns-in-Some-2 c =
    let parents = rw c.in-Some-2.is at c.in_ok-parents_of.ensures in
    entity_from (fields_in c.args.entries.now) c.in-Some.uid.now c.in-Some-2.parents.items c.in-Some-optional_record.attrs c.in-Some-optional_record-2.tags
    c.in-Some.ensures parents c.in-Some-optional_record.ensures c.in-Some-optional_record-2.ensures
