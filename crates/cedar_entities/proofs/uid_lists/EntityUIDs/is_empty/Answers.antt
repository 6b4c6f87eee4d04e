-- A list is empty where its set is (Inserted).
use Rattle.cedar_entities.proofs.Inserted.{empties}
use Rattle.cedar_entities.proofs.uid_lists.EntityUIDs.is_empty.Goals as goal

pub returns : goal.returns
returns c = empties c.as_slice.result.now c.args.self.now c.as_slice.ensures.listed c.is_empty.result c.is_empty.ensures
