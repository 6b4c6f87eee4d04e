-- Which stores and tables have facts that are made again.
use Rattle.std.specs.Prelude.{◌≡◌, false, Some, IfSome}
use Rattle.std.specs.FinMap as finite
use Rattle.cedar_language.specs.Constructing.{the_constructor, constructor_function}
use Rattle.cedar_language.specs.Facts.{Facts}
use Rattle.cedar_language.specs.Uid.{Text, Uid}
use Rattle.cedar_partial_evaluation.specs.MadeAgain.{HoldsMade}
use Rattle.cedar_entities.specs.Attributes.{AttributeMap}
use Rattle.cedar_entities.specs.Store.{held_at, is_partial_store, IsClosed}
use Rattle.cedar_entities.specs.declared.store.Entities.{Entities}
use Rattle.cedar_extensions.specs.Table.{Table, HasFunctions}
use Rattle.cedar_operators.specs.Store.{HasFacts}
use Rattle.cedar_operators.specs.StoreLaws.{HoldsValues}
use Rattle.cedar_restricted_evaluation.specs.Built.{IsBuiltPart, GivesBuilt}

-- each value that stands there is built
abbrev pub AreBuiltParts : AttributeMap → Type 0
AreBuiltParts m = (name : Text) → IfSome (finite.get m name) IsBuiltPart

-- each value that is held as an attribute or a tag is built
abbrev pub HoldsBuilt : Entities → Type 0
HoldsBuilt store = (uid : Uid) → IfSome (held_at store uid) (λ h. AreBuiltParts h.attributes × AreBuiltParts h.tags)

-- its functions give values that are built, and among them is the language's own constructor
pub record MakesValues (table : Table) : Type 0 where
  pub built : GivesBuilt table
  pub constructs : table.function the_constructor ≡ Some constructor_function

-- it has facts with these functions, and all that they hold is made again
abbrev pub HasMadeFacts : Entities → Table → Type 0
HasMadeFacts store table = (facts : Facts) × HasFacts store facts × HasFunctions table facts × HoldsMade facts

-- a closed store of built values that isn't partial has such facts
abbrev pub StoresAreMade : Type 0
StoresAreMade = (store : Entities) (table : Table) → is_partial_store store ≡ false → IsClosed store → HoldsValues store → HoldsBuilt store → MakesValues table → HasMadeFacts store table
