-- The entities that the store shows are built, which its invariant keeps.
use Rattle.cedar_held.proofs.EditedBodies.{shows_as}
use Rattle.cedar_held.proofs.held_entities.HeldEntities.store.Goals as goal

pub returns-clause-built : goal.returns-clause-built
returns-clause-built c = c.self.invariant.built c.args.self.now (shows_as c.self.inside.store c.self.inside.shown c.args.self.now c.self.view_is)
