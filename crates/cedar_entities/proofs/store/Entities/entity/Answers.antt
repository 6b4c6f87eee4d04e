-- Where one is held, it is what `get` says of it.
use Rattle.cedar_entities.proofs.store.Entities.entity.Goals as goal

pub returns-in-Some : goal.returns-in-Some
returns-in-Some c = c.in-Some.ensures.held
