-- Where a store finds nothing it shows no entities, and no value stands there that would have to be built.
use Rattle.std.specs.FinMap as finite
use Rattle.cedar_entities.specs.Store.{held_at}
use Rattle.cedar_held.specs.HoldingEntities.{shown_is_one}
use Rattle.std.proofs.Common.{subst}
use Rattle.cedar_held.specs.Built.{HoldBuilt}
use Rattle.cedar_held.proofs.BuiltEdits.{nothing_built}
use Rattle.cedar_held.proofs.EditedBodies.{nothing_shown}
use Rattle.cedar_held.proofs.held_entities.HeldEntities.new.Goals as goal

pub from_store-requires-clause-shown : goal.from_store-requires-clause-shown
from_store-requires-clause-shown c = record { entities = finite.empty; shows = nothing_shown c.new.result c.new.ensures.found }

pub from_store-requires-clause-built : goal.from_store-requires-clause-built
from_store-requires-clause-built c = λ entities shows. subst HoldBuilt (shown_is_one (held_at c.new.result) finite.empty entities (nothing_shown c.new.result c.new.ensures.found) shows) nothing_built

pub returns : goal.returns
returns c = shown_is_one (held_at c.new.result) c.from_store.result finite.empty c.from_store.ensures (nothing_shown c.new.result c.new.ensures.found)
