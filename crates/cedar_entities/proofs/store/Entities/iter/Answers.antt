-- Entities under their uids come in the order of these (Ordered).
use Rattle.cedar_entities.proofs.Ordered.{values_rise}
use Rattle.cedar_entities.proofs.store.Entities.iter.Goals as goal

pub returns-clause-rising : goal.returns-clause-rising
returns-clause-rising c = values_rise c.args.self.now.entities c.args.self.now.by_uid c.values.ensures.ordered
