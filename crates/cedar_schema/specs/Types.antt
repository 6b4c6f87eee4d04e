-- The types of the definition that resolved types are.
use Rattle.std.specs.Prelude.{List, [], ◌∷◌, map}
use Rattle.std.specs.BTreeMap.{BTreeMap}
use Rattle.std.specs.Global.{Vec}
use Rattle.cedar_language.specs.Uid.{Text}
use Rattle.cedar_typing.specs.Types as typing
use Rattle.cedar_schema_syntax.specs.View.{presence_view}
use Rattle.cedar_schema.specs.declared.types.SchemaType.{SchemaType, fold-SchemaType}
use Rattle.cedar_schema.specs.declared.types.SchemaType.TheOpen.{SchemaType-F, AttributeType-F}
use Rattle.cedar_schema.specs.declared.types.SchemaType.TheOpen as layer
use Rattle.cedar_schema.specs.declared.types.AttributeType.{AttributeType, fold-AttributeType}

-- the attributes of these names, in this order
abbrev pub listed : List (Text × typing.Field) → typing.Fields
listed [] = typing.no_fields
listed (f ∷ fs) = typing.a_field f.0 f.1.presence f.1.type (listed fs)

-- one level, with the views of its parts in their places
abbrev pub type_step : SchemaType-F typing.CedarType typing.Field → typing.CedarType
type_step layer.Boolean = typing.Booleans typing.Unsure
type_step layer.Long = typing.Longs
type_step layer.String = typing.Strings
type_step (layer.Entity n) = typing.Entities n
type_step (layer.Set t) = typing.Sets t.value
type_step (layer.Record m) = typing.Records (listed m.value.entries)
type_step (layer.Extension n ordered) = typing.Extensions n ordered

abbrev pub attribute_step : AttributeType-F typing.CedarType typing.Field → typing.Field
attribute_step a = record { presence = presence_view a.presence; type = a.schema_type }

abbrev pub type_view : SchemaType → typing.CedarType
type_view = fold-SchemaType typing.CedarType typing.Field type_step attribute_step

abbrev pub attribute_view : AttributeType → typing.Field
attribute_view = fold-AttributeType typing.CedarType typing.Field type_step attribute_step

-- attributes by their names
abbrev pub named_views : List (Text × AttributeType) → List (Text × typing.Field)
named_views es = map (λ e. (e.0, attribute_view e.1)) es

-- the attributes of a record, by a map from their names
abbrev pub fields_of : BTreeMap Text AttributeType → typing.Fields
fields_of m = listed (named_views m.entries)

-- and as they are listed
abbrev pub typed_views : Vec (Text × AttributeType) → List (Text × typing.Field)
typed_views v = named_views v.items
