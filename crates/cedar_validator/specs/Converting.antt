-- Types as a schema has them, and as typing does.
use Rattle.std.specs.Prelude.{◌≡◌, ⊤, ◌||◌, Bool, true, false, map, Option, Some, None, Result, Ok, Err}
use Rattle.std.specs.Global.{Vec}
use Rattle.cedar_language.specs.Uid.{Name}
use Rattle.cedar_language.specs.Order.{same_name}
use Rattle.cedar_typing.specs.Types.{CedarType, Booleans, Longs, Strings, Entities, Sets, Records, Extensions, Fields, no_fields, a_field}
use Rattle.cedar_typechecker.specs.Types.{type_view, fields_view}
use Rattle.cedar_typechecker.specs.declared.types.ExprType.{ExprType}
use Rattle.cedar_typechecker.specs.declared.types.Field.{Field}
use Rattle.cedar_validator.specs.Names.{is_writable}
use Rattle.cedar_validator.specs.declared.errors.SchemaNameError.{SchemaNameError}
use Rattle.cedar_validator.specs.declared.errors.SchemaNameError.TheVariants as error

-- the type names this entity type or extension type
abbrev mutual
  pub names : CedarType → Name → Bool
  names (Booleans b) n = false
  names Longs n = false
  names Strings n = false
  names (Entities m) n = same_name m n
  names (Sets t) n = names t n
  names (Records fs) n = some_names fs n
  names (Extensions m o) n = same_name m n

  -- one of the fields does
  pub some_names : Fields → Name → Bool
  some_names no_fields n = false
  some_names (a_field k p t fs) n = names t n || some_names fs n

-- nothing is told but for want of memory, or of one of these names that no policy can write
abbrev pub TellsName : (Name → Bool) → SchemaNameError → Type 0
TellsName is_named (error.UnwritableName n) = (is_named n ≡ true) × (is_writable n ≡ false)
TellsName is_named error.Memory = ⊤

-- the type itself, where policies can write the names in it
abbrev pub Converts : CedarType → Result ExprType SchemaNameError → Type 0
Converts t (Ok x) = type_view x ≡ t
Converts t (Err e) = TellsName (names t) e

abbrev pub ConvertFields : Fields → Result (Vec Field) SchemaNameError → Type 0
ConvertFields fs (Ok xs) = fields_view xs.items ≡ fs
ConvertFields fs (Err e) = TellsName (some_names fs) e
