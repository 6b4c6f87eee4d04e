-- Which resolved types have fields.
use Rattle.std.proofs.Common.{◌≡◌, Bool, Global, Some, None, sym, ap, ◌∙◌}
use Rattle.std.specs.declared.rc.Rc.{Rc}
use Rattle.std.specs.BTreeMap.{BTreeMap}
use Rattle.cedar_language.specs.Uid.{Text, Name}
use Rattle.cedar_typing.specs.Types as typing
use Rattle.cedar_schema_grammar.specs.Resolving.{fields_of}
use Rattle.cedar_schema.specs.declared.types.SchemaType.{SchemaType, fold-roll-SchemaType}
use Rattle.cedar_schema.specs.declared.types.SchemaType.TheVariants as types
use Rattle.cedar_schema.specs.declared.types.AttributeType.{AttributeType}
use Rattle.cedar_schema.specs.Types.{type_step, attribute_step, type_view}
use Rattle.cedar_schema.specs.Types as schema
use Rattle.cedar_schema.proofs.TypeViews.{entity_view, set_view, record_view}

pub boolean_view : type_view types.Boolean ≡ typing.Booleans typing.Unsure
boolean_view = ap type_view (sym types.rolls-Boolean) ∙ fold-roll-SchemaType typing.CedarType typing.Field type_step attribute_step _

pub long_view : type_view types.Long ≡ typing.Longs
long_view = ap type_view (sym types.rolls-Long) ∙ fold-roll-SchemaType typing.CedarType typing.Field type_step attribute_step _

pub string_view : type_view types.String ≡ typing.Strings
string_view = ap type_view (sym types.rolls-String) ∙ fold-roll-SchemaType typing.CedarType typing.Field type_step attribute_step _

pub extension_view : (n : Name) (b : Bool) → type_view (types.Extension n b) ≡ typing.Extensions n b
extension_view n b = ap type_view (sym (types.rolls-Extension n b)) ∙ fold-roll-SchemaType typing.CedarType typing.Field type_step attribute_step _

pub no_boolean : fields_of (Some (type_view types.Boolean)) ≡ None
no_boolean = ap (λ t. fields_of (Some t)) boolean_view

pub no_long : fields_of (Some (type_view types.Long)) ≡ None
no_long = ap (λ t. fields_of (Some t)) long_view

pub no_string : fields_of (Some (type_view types.String)) ≡ None
no_string = ap (λ t. fields_of (Some t)) string_view

pub no_entity : (n : Name) → fields_of (Some (type_view (types.Entity n))) ≡ None
no_entity n = ap (λ t. fields_of (Some t)) (entity_view n)

pub no_set : (t : Rc SchemaType Global) → fields_of (Some (type_view (types.Set t))) ≡ None
no_set t = ap (λ u. fields_of (Some u)) (set_view t)

pub no_extension : (n : Name) (b : Bool) → fields_of (Some (type_view (types.Extension n b))) ≡ None
no_extension n b = ap (λ t. fields_of (Some t)) (extension_view n b)

pub record_has : (m : Rc (BTreeMap Text AttributeType) Global) → fields_of (Some (type_view (types.Record m))) ≡ Some (schema.fields_of m.value)
record_has m = ap (λ t. fields_of (Some t)) (record_view m)
