-- What the map has at a uid is what is held there, and stands under its own uid.
use Rattle.cedar_entities.proofs.Edited.{if_held, if_none}
use Rattle.cedar_entities.proofs.store.Entities.get.Goals as goal

pub returns-clause-held : goal.returns-clause-held
returns-clause-held c = if_held c.args.self.now c.args.uid.now c.get.result c.get.ensures.value c.args.self.now.by_uid

pub returns-clause-none : goal.returns-clause-none
returns-clause-none c = if_none c.args.self.now c.args.uid.now c.get.result c.get.ensures.value
