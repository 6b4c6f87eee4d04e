-- Entities whose attributes and tags their trees make again.
use Rattle.std.specs.Prelude.{◌≡◌, Some, List}
use Rattle.std.specs.FinMap as finite
use Rattle.std.specs.List.{AllByRecursion}
use Rattle.cedar_language.specs.Uid.{Text, Uid}
use Rattle.cedar_language.specs.Value.{Value}
use Rattle.cedar_world.specs.World as world
use Rattle.cedar_world.specs.EntityEdits.{Version}
pub use Rattle.cedar_restricted_evaluation.specs.Built.{IsBuilt, AreBuilt, IsBuiltPart, AreBuiltEntries, GivesBuilt}

-- each attribute and tag is such a value
pub record IsBuiltData (h : world.EntityData) : Type 0 where
  pub attribute : (a : Text) (v : Value) → finite.get h.attributes a ≡ Some v → IsBuilt v
  pub tag : (a : Text) (v : Value) → finite.get h.tags a ≡ Some v → IsBuilt v

abbrev pub IsBuiltVersion : Version → Type 0
IsBuiltVersion v = IsBuiltData v.held

abbrev pub AreBuiltVersions : List Version → Type 0
AreBuiltVersions vs = AllByRecursion IsBuiltVersion vs

-- each attribute and tag that is held is such a value
pub record HoldBuilt (entities : world.Entities) : Type 0 where
  pub attribute : (u : Uid) (h : world.EntityData) (a : Text) (v : Value) → finite.get entities u ≡ Some h → finite.get h.attributes a ≡ Some v → IsBuilt v
  pub tag : (u : Uid) (h : world.EntityData) (a : Text) (v : Value) → finite.get entities u ≡ Some h → finite.get h.tags a ≡ Some v → IsBuilt v
