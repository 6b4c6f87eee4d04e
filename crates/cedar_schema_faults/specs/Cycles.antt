-- What is within itself.
use Rattle.std.specs.Prelude.{◌≡◌, true, false, Option, Some, None}
use Rattle.cedar_language.specs.Uid.{Name, Uid}
use Rattle.cedar_schema_grammar.specs.Declared.{Library, Declared}
use Rattle.cedar_schema_grammar.specs.Written.{type_reaches}
use Rattle.cedar_schema_grammar.specs.Faults.{SchemaFault, CycleInCommonTypeReferences, CycleInActionHierarchy, action_reaches}
use Rattle.cedar_schema.specs.Tables.{IsTableOf}
use Rattle.cedar_schema.specs.declared.tables.TypeTable.{TypeTable}
use Rattle.cedar_schema_resolution.specs.Shapes.{IsUnfolded}

-- none is told, each common type is unfolded, and none is within itself; or one is told that is
abbrev pub AreResolvedOr : Declared → Library → TypeTable → Option SchemaFault → Type 0
AreResolvedOr d l table None = IsUnfolded d l table × ((n : Name) → type_reaches d l n n ≡ false)
AreResolvedOr d l table (Some f) =
    IsTableOf (λ t. None) d l table × ((n : Name) × (f ≡ CycleInCommonTypeReferences n) × (type_reaches d l n n ≡ true))

-- none is told, and no action is within itself; or one is told that is
abbrev pub AreApartOr : Declared → Option SchemaFault → Type 0
AreApartOr d None = (u : Uid) → action_reaches d u u ≡ false
AreApartOr d (Some f) = (u : Uid) × (f ≡ CycleInActionHierarchy u) × (action_reaches d u u ≡ true)
