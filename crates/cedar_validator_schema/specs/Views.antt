-- The schema that code holds.
use Rattle.std.specs.Prelude.{◌≡◌, cond, ◌||◌, Option, Some, None, is_some}
use Rattle.std.specs.Option.{option_map_or}
use Rattle.std.specs.BTreeMap.{keys}
use Rattle.std.specs.BTreeSet.{contains}
use Rattle.cedar_language.specs.Uid.{Name}
use Rattle.cedar_language.specs.Order.{same_name, same_uid, name_cmp, uid_cmp}
use Rattle.cedar_typing.specs.Types.{Fields, no_fields}
use Rattle.cedar_typing.specs.Schema as typing
use Rattle.cedar_schema_grammar.specs.Declared.{Library, Declared, or_else}
use Rattle.cedar_schema_grammar.specs.Resolving.{schema_of}
use Rattle.cedar_schema.specs.declared.tables.TypeTable.{TypeTable}
use Rattle.cedar_schema_grammar.specs.Reaching.{leads_through}
use Rattle.cedar_schema_resolution.specs.Shapes.{shape_view, IsUnfolded}
use Rattle.cedar_validator_schema.specs.Hierarchies.{leads}
use Rattle.cedar_validator_schema.specs.Applying.{Application, applies_in}
use Rattle.cedar_validator_schema.specs.EntityTypes.{shape_at, ids_at}
use Rattle.cedar_validator_schema.specs.Actions.{application_at}
use Rattle.cedar_validator_schema.specs.declared.schema.ValidatorSchema.{ValidatorSchema}

-- a declared type has its shape, and the types of actions have that of actions
abbrev pub shape_in : ValidatorSchema → Name → Option typing.EntityShape
shape_in v n = or_else (shape_at v.entity_types n) (cond (contains name_cmp v.action_types n) (Some (shape_view v.action_shape)) None)

abbrev pub context_in : Option Application → Fields
context_in o = option_map_or (λ a. a.context) o no_fields

-- the schema, with these extension functions
abbrev pub schema_view : (Name → Option typing.Signature) → ValidatorSchema → typing.Schema
schema_view signature v = record {
  entity = shape_in v;
  may_name = λ u. ids_at v.entity_types u.type_name u.id || is_some (application_at v.actions u);
  may_reach = leads_through (leads same_name name_cmp v.entity_types.parents) (keys v.entity_types.parents.targets);
  is_action = λ u. is_some (application_at v.actions u);
  action_reaches = leads_through (leads same_uid uid_cmp v.actions.groups) (keys v.actions.groups.targets);
  applies = λ u. applies_in (application_at v.actions u);
  context = λ u. context_in (application_at v.actions u);
  signature = signature;
}

-- whatever is declared that the table has: this is its schema
abbrev pub IsSchemaBy : TypeTable → Declared → ValidatorSchema → Type 0
IsSchemaBy t d v = (l : Library) → IsUnfolded d l t → schema_view l.signature v ≡ schema_of l d
