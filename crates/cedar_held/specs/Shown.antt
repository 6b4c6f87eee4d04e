-- The world's entities as a store holds them, all attributes and tags being values.
use Rattle.std.specs.Prelude.{◌≡◌, Option, List, map}
use Rattle.std.specs.Option.{option_map}
use Rattle.std.specs.FinMap as finite
use Rattle.std.specs.FinSet as set
use Rattle.either.specs.declared.Either.TheVariants.{Left}
use Rattle.cedar_language.specs.Uid.{Text, Uid}
use Rattle.cedar_language.specs.Value.{Value}
use Rattle.cedar_world.specs.Orders.{TextMap}
use Rattle.cedar_world.specs.World as world
use Rattle.cedar_world.specs.EntityEdits.{Version}
use Rattle.cedar_entities.specs.Attributes.{Attribute, AttributeMap}
use Rattle.cedar_entities.specs.Data.{EntityData}
use Rattle.cedar_entities.specs.Held.{Held}

-- a value at its name
abbrev pub as_attribute : Text × Value → Text × Attribute
as_attribute e = (e.0, Left e.1)

abbrev pub as_attributes : TextMap Value → AttributeMap
as_attributes m = finite.from_entries (map as_attribute (finite.entries m))

abbrev pub as_held : world.EntityData → Held
as_held h = record { attributes = as_attributes h.attributes; tags = as_attributes h.tags; parents = h.parents }

-- a version, as an entity that is handed in
abbrev pub as_entity : Version → EntityData
as_entity v = record { uid = v.uid; attributes = as_attributes v.held.attributes; tags = as_attributes v.held.tags; parents = v.held.parents; indirect = set.empty }

abbrev pub as_entities : List Version → List EntityData
as_entities vs = map as_entity vs

-- what is held is what the world holds
abbrev pub Shows : (Uid → Option Held) → world.Entities → Type 0
Shows held entities = (uid : Uid) → held uid ≡ option_map as_held (finite.get entities uid)
