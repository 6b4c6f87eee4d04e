-- Types in code, as the definition of typing has them.
use Rattle.std.specs.Prelude.{Bool, true, false, List, map, Option, Some, None}
use Rattle.std.specs.Rc.{rc_str_bytes}
use Rattle.cedar_language.specs.Uid.{Text, Name}
use Rattle.cedar_typing.specs.Types as typing
use Rattle.cedar_typing.specs.Types.{BoolType, AlwaysTrue, AlwaysFalse, Unsure, CedarType, Booleans, Longs, Strings, Entities, Sets, Records, Extensions, Fields}
use Rattle.cedar_schema_syntax.specs.View.{presence_view}
use Rattle.cedar_schema.specs.Types.{listed}
use Rattle.cedar_typechecker.specs.declared.types.BoolType as bool_type
use Rattle.cedar_typechecker.specs.declared.types.BoolType.TheVariants as bool_types
use Rattle.cedar_typechecker.specs.declared.types.ExprType.{ExprType, fold-ExprType}
use Rattle.cedar_typechecker.specs.declared.types.ExprType.TheOpen.{ExprType-F, Field-F}
use Rattle.cedar_typechecker.specs.declared.types.ExprType.TheOpen as layer
use Rattle.cedar_typechecker.specs.declared.types.Field.{Field, fold-Field}

abbrev pub bool_type_view : bool_type.BoolType → BoolType
bool_type_view bool_types.AlwaysTrue = AlwaysTrue
bool_type_view bool_types.AlwaysFalse = AlwaysFalse
bool_type_view bool_types.Unsure = Unsure

-- one level, with the views of its parts in their places
abbrev pub type_step : ExprType-F CedarType (Text × typing.Field) → CedarType
type_step (layer.Boolean t) = Booleans (bool_type_view t)
type_step layer.Long = Longs
type_step layer.String = Strings
type_step (layer.Entity n) = Entities n
type_step (layer.Set t) = Sets t.value
type_step (layer.Record fs) = Records (listed fs.value.items)
type_step (layer.Extension n ordered) = Extensions n ordered

abbrev pub field_step : Field-F CedarType (Text × typing.Field) → Text × typing.Field
field_step f = (rc_str_bytes f.name, record { presence = presence_view f.presence; type = f.expr_type })

abbrev pub type_view : ExprType → CedarType
type_view = fold-ExprType CedarType (Text × typing.Field) type_step field_step

abbrev pub field_view : Field → Text × typing.Field
field_view = fold-Field CedarType (Text × typing.Field) type_step field_step

abbrev pub fields_view : List Field → Fields
fields_view fs = listed (map field_view fs)

-- ---- what a type has, where it is of a kind

abbrev pub bool_type_in : CedarType → Option BoolType
bool_type_in (Booleans t) = Some t
bool_type_in t = None

abbrev pub is_long : CedarType → Bool
is_long Longs = true
is_long t = false

abbrev pub is_string : CedarType → Bool
is_string Strings = true
is_string t = false

abbrev pub entity_in : CedarType → Option Name
entity_in (Entities n) = Some n
entity_in t = None

abbrev pub element_in : CedarType → Option CedarType
element_in (Sets t) = Some t
element_in t = None

abbrev pub fields_in : CedarType → Option Fields
fields_in (Records fs) = Some fs
fields_in t = None

abbrev pub extension_in : CedarType → Option (Name × Bool)
extension_in (Extensions n ordered) = Some (n, ordered)
extension_in t = None

-- the name of an extension type that has an order
abbrev pub ordered_in : CedarType → Option Name
ordered_in (Extensions n true) = Some n
ordered_in t = None
