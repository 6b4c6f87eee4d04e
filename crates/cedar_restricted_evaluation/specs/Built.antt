-- Values that their trees make again: their sets rise, and the keys of their extension values are bytes.
use Rattle.std.specs.Prelude.{◌≡◌, Some, List}
use Rattle.std.specs.List.{AllByRecursion}
use Rattle.either.specs.declared.Either.{Either}
use Rattle.either.specs.declared.Either.TheVariants.{Left, Right}
use Rattle.cedar_language.specs.Facts.{Function}
use Rattle.cedar_language.specs.Tree.{Tree}
use Rattle.cedar_language.specs.Uid.{Text, Name}
use Rattle.cedar_language.specs.Value.{Value, Values}
use Rattle.cedar_extensions.specs.Table.{Table}
pub use Rattle.cedar_extensions.specs.Answering.{IsBuilt, AreBuilt}

-- where it is a value
abbrev pub IsBuiltPart : Either Value Tree → Type 0
IsBuiltPart (Left v) = IsBuilt v
IsBuiltPart (Right r) = Unit {0}

-- the value at each name
abbrev pub AreBuiltEntries : List (Text × Value) → Type 0
AreBuiltEntries es = AllByRecursion (λ (e : Text × Value). IsBuilt e.1) es

-- each value that a function of the table gives
abbrev pub GivesBuilt : Table → Type 0
GivesBuilt table = (n : Name) (f : Function) (vs : Values) (v : Value) → table.function n ≡ Some f → f.answer vs ≡ Some v → IsBuilt v
