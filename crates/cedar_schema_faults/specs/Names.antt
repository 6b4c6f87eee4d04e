-- What the names of a schema stand for, as they are looked up.
use Rattle.std.specs.Prelude.{◌≡◌, true, false, Option}
use Rattle.cedar_language.specs.Uid.{Name, Uid}
use Rattle.cedar_typing.specs.Types.{CedarType}
use Rattle.cedar_schema_grammar.specs.Declared.{Library, CommonType, Declared}
use Rattle.cedar_schema_grammar.specs.Written.{type_reaches}
use Rattle.cedar_schema_grammar.specs.Faults.{action_reaches}
use Rattle.cedar_schema.specs.Tables.{IsTableOf}
use Rattle.cedar_schema_resolution.specs.Parents as parents
use Rattle.cedar_schema_resolution.specs.Shapes.{IsUnfolded}
use Rattle.cedar_schema_faults.specs.Actions.{HaveNumbers}
use Rattle.cedar_schema_faults.specs.declared.names.SchemaNames.{SchemaNames}

-- the names of what is declared; where common types are resolved the table has each unfolded
pub record HasNames (d : Declared) (l : Library) (names : SchemaNames) : Type 0 where
  pub common : CommonType → Option CedarType
  pub table : IsTableOf common d l names.table
  pub resolved : names.is_resolved ≡ true → IsUnfolded d l names.table
  pub entities : parents.AreNamesOf d names.entities
  pub actions : HaveNumbers d.actions names.actions

-- no common type and no action is within itself
pub record HasNoCycle (d : Declared) (l : Library) : Type 0 where
  pub types : (n : Name) → type_reaches d l n n ≡ false
  pub actions : (u : Uid) → action_reaches d u u ≡ false
