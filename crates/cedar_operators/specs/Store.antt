-- A whole store, and what it holds as facts.
use Rattle.std.specs.Prelude.{◌≡◌, ⊤, false, Option, None, Some}
use Rattle.std.specs.Option.{option_map}
use Rattle.std.specs.Borrow.{Bor}
use Rattle.std.specs.FinMap as finite
use Rattle.either.specs.declared.Either.TheVariants.{Left}
use Rattle.cedar_language.specs.Uid.{Text, Uid}
use Rattle.cedar_language.specs.Value.{Value}
use Rattle.cedar_language.specs.Facts as language
use Rattle.cedar_language.specs.Facts.{Facts, DecidesReaches}
use Rattle.cedar_entities.specs.Attributes.{AttributeMap}
use Rattle.cedar_entities.specs.Data.{EntityData}
use Rattle.cedar_entities.specs.Held.{Held, IsParent}
use Rattle.cedar_entities.specs.Store.{held_at, is_partial_store, IsClosed, IsHeld}
use Rattle.cedar_entities.specs.declared.store.Entities.{Entities}

-- what stands at each name is a value, and the one that the facts have there
abbrev pub AreAttributes : AttributeMap → (Text → Option Value) → Type 0
AreAttributes m attribute = (name : Text) → finite.get m name ≡ option_map Left (attribute name)

-- the entity that is held is that of the facts, or both have none
abbrev pub IsShown : Option Held → Option language.Held → Type 0
IsShown None None = ⊤
IsShown None (Some shown) = ⊥
IsShown (Some h) None = ⊥
IsShown (Some h) (Some shown) = AreAttributes h.attributes shown.attribute × AreAttributes h.tags shown.tag

-- The store holds what the facts have, and all of it: an entity that isn't held is not in the facts, and an entity's
-- ancestors are what its parents reach. Nothing is said of functions.
pub record HasFacts (store : Entities) (facts : Facts) : Type 0 where
  pub whole : is_partial_store store ≡ false
  pub closed : IsClosed store
  pub entities : (uid : Uid) → IsShown (held_at store uid) (facts.entity uid)
  pub reaches : DecidesReaches (IsParent (held_at store)) facts

-- the entity that is held there, if one is
abbrev pub IsFound : Entities → Uid → Option (Bor EntityData) → Type 0
IsFound store uid None = held_at store uid ≡ None
IsFound store uid (Some e) = IsHeld store uid e.now
