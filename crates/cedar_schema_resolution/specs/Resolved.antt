-- Common types that are resolved, one after another.
use Rattle.std.specs.Prelude.{◌≡◌, ℕ, Bool, true, false, cond, List, [], ◌∷◌, length, Option, Some, None, nat_eq, ⊤}
use Rattle.cedar_language.specs.Uid.{Name}
use Rattle.cedar_typing.specs.Types.{CedarType}
use Rattle.cedar_schema_grammar.specs.Declared.{Library, CommonType, Declared, type_name}
use Rattle.cedar_schema_grammar.specs.Written.{written, unfolded, type_reaches}
use Rattle.cedar_schema.specs.Tables.{IsTableOf}
use Rattle.cedar_schema.specs.declared.tables.TypeTable.{TypeTable}
use Rattle.cedar_schema_resolution.specs.Numbers.{number_of, AreNumbersOf}
use Rattle.cedar_schema_resolution.specs.declared.numbers.CommonNumbers.{CommonNumbers}
use Rattle.cedar_schema_resolution.specs.declared.resolution.ResolutionError.{ResolutionError}
use Rattle.cedar_schema_resolution.specs.declared.resolution.ResolutionError.TheVariants as error

abbrev pub is_number : Option ℕ → ℕ → Bool
is_number (Some j) i = nat_eq j i
is_number None i = false

-- the common type of a number gets the type that is written for it by the others
abbrev pub with_type : Declared → Library → (CommonType → Option CedarType) → ℕ → CommonType → Option CedarType
with_type d l common i t = cond (is_number (number_of d (type_name t)) i) (written common d l t.namespace t.type) (common t)

abbrev pub with_types : Declared → Library → (CommonType → Option CedarType) → List ℕ → CommonType → Option CedarType
with_types d l common [] = common
with_types d l common (i ∷ more) = with_types d l (with_type d l common i) more

-- the common types of these numbers are resolved in the table, whatever it says of the others
abbrev pub AreResolved : Declared → CommonNumbers → List ℕ → TypeTable → TypeTable → Type 0
AreResolved d c order old new =
    (l : Library) (common : CommonType → Option CedarType) → AreNumbersOf d c → IsTableOf common d l old → IsTableOf (with_types d l common order) d l new

-- a table without the types of common types becomes one in which each is unfolded
abbrev pub IsFilled : Declared → TypeTable → TypeTable → Type 0
IsFilled d old new = (l : Library) → IsTableOf (λ t. None) d l old → IsTableOf (unfolded (length d.types) d l) d l new

-- no common type is within itself
abbrev pub IsAcyclic : Declared → Type 0
IsAcyclic d = (l : Library) (n : Name) → type_reaches d l n n ≡ false

-- the common type of this name is told
abbrev pub ToldAt : Name → ResolutionError → Type 0
ToldAt n (error.CycleInCommonTypeReferences m) = m ≡ n
ToldAt n error.Memory = ⊤

-- the common type that is told is within itself
abbrev pub TellsCycle : Declared → ResolutionError → Type 0
TellsCycle d (error.CycleInCommonTypeReferences n) = (l : Library) → type_reaches d l n n ≡ true
TellsCycle d error.Memory = ⊤
