-- The views of resolved types, by the views of their parts.
use Rattle.std.proofs.Common.{◌≡◌, Bool, Global, sym, ap, ◌∙◌}
use Rattle.std.specs.declared.rc.Rc.{Rc}
use Rattle.std.specs.BTreeMap.{BTreeMap}
use Rattle.cedar_language.specs.Uid.{Text, Name}
use Rattle.cedar_typing.specs.Types as typing
use Rattle.cedar_schema_syntax.specs.View.{presence_view}
use Rattle.cedar_schema_syntax.specs.declared.types.Presence.{Presence}
use Rattle.cedar_schema.specs.declared.types.SchemaType.{SchemaType, fold-roll-SchemaType}
use Rattle.cedar_schema.specs.declared.types.SchemaType.TheVariants as types
use Rattle.cedar_schema.specs.declared.types.AttributeType.{AttributeType, roll-AttributeType, fold-roll-AttributeType}
use Rattle.cedar_schema.specs.Types.{type_step, attribute_step, type_view, attribute_view, listed, named_views}

pub entity_view : (n : Name) → type_view (types.Entity n) ≡ typing.Entities n
entity_view n = ap type_view (sym (types.rolls-Entity n)) ∙ fold-roll-SchemaType typing.CedarType typing.Field type_step attribute_step _

pub set_view : (t : Rc SchemaType Global) → type_view (types.Set t) ≡ typing.Sets (type_view t.value)
set_view t = ap type_view (sym (types.rolls-Set t)) ∙ fold-roll-SchemaType typing.CedarType typing.Field type_step attribute_step _

pub record_view : (m : Rc (BTreeMap Text AttributeType) Global) → type_view (types.Record m) ≡ typing.Records (listed (named_views m.value.entries))
record_view m = ap type_view (sym (types.rolls-Record m)) ∙ fold-roll-SchemaType typing.CedarType typing.Field type_step attribute_step _

-- the type of an attribute, made of its parts
pub rolled_view : (p : Presence) (t : SchemaType) → attribute_view (roll-AttributeType record { presence = p; schema_type = t }) ≡ record { presence = presence_view p; type = type_view t }
rolled_view p t = fold-roll-AttributeType typing.CedarType typing.Field type_step attribute_step record { presence = p; schema_type = t }
