-- Which stores have facts.
use Rattle.std.specs.Prelude.{◌≡◌, false, IfSome}
use Rattle.std.specs.FinMap as finite
use Rattle.either.specs.declared.Either.TheVariants.{Left}
use Rattle.cedar_language.specs.Uid.{Text, Uid}
use Rattle.cedar_language.specs.Value.{Value}
use Rattle.cedar_language.specs.Facts.{Facts}
use Rattle.cedar_entities.specs.Attributes.{AttributeMap}
use Rattle.cedar_entities.specs.Store.{held_at, is_partial_store, IsClosed}
use Rattle.cedar_entities.specs.declared.store.Entities.{Entities}
use Rattle.cedar_operators.specs.Store.{HasFacts}

-- no residual stands there
abbrev pub AreValues : AttributeMap → Type 0
AreValues m = (name : Text) → IfSome (finite.get m name) (λ a. (v : Value) × (a ≡ Left v))

-- each attribute and tag that is held is a value
abbrev pub HoldsValues : Entities → Type 0
HoldsValues store = (uid : Uid) → IfSome (held_at store uid) (λ h. AreValues h.attributes × AreValues h.tags)

-- a closed store of values that isn't partial has facts, whatever the functions are
abbrev pub StoresHaveFacts : Type 0
StoresHaveFacts = (store : Entities) (others : Facts) → is_partial_store store ≡ false → IsClosed store → HoldsValues store →
    (facts : Facts) × HasFacts store facts × (facts.function ≡ others.function)
