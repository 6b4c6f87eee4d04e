-- What a schema's syntax is without its places: the syntax of the grammar's definition.
use Rattle.std.specs.Prelude.{List, [], ◌∷◌, map}
use Rattle.std.specs.Option.{option_map, unwrap_or}
use Rattle.std.specs.Rc.{rc_str_bytes}
use Rattle.cedar_language.specs.Uid.{Text, Name}
use Rattle.cedar_typing.specs.Types as typing
use Rattle.cedar_schema_grammar.specs.Syntax as syntax
use Rattle.cedar_schema_syntax.specs.declared.names.Name as name
use Rattle.cedar_schema_syntax.specs.declared.names.Path as path
use Rattle.cedar_schema_syntax.specs.declared.types.Presence as presence
use Rattle.cedar_schema_syntax.specs.declared.types.Presence.TheVariants as presences
use Rattle.cedar_schema_syntax.specs.declared.types.TypeSyntax.{TypeSyntax, fold-TypeSyntax}
use Rattle.cedar_schema_syntax.specs.declared.types.TypeSyntax.TheOpen.{TypeSyntax-F, Attribute-F}
use Rattle.cedar_schema_syntax.specs.declared.types.TypeSyntax.TheOpen as layer
use Rattle.cedar_schema_syntax.specs.declared.types.Attribute.{Attribute, fold-Attribute}
use Rattle.cedar_schema_syntax.specs.declared.entities.EntitySyntax as entity
use Rattle.cedar_schema_syntax.specs.declared.actions.ActionRef as action_ref
use Rattle.cedar_schema_syntax.specs.declared.actions.AppliesEntry as entry
use Rattle.cedar_schema_syntax.specs.declared.actions.AppliesEntry.TheVariants as entries
use Rattle.cedar_schema_syntax.specs.declared.actions.ActionSyntax as action
use Rattle.cedar_schema_syntax.specs.declared.declarations.Declaration as declaration
use Rattle.cedar_schema_syntax.specs.declared.declarations.Declaration.TheVariants as declarations
use Rattle.cedar_schema_syntax.specs.declared.declarations.Namespace as block
use Rattle.cedar_schema_syntax.specs.declared.declarations.SchemaSyntax as schema

-- ---- names

abbrev pub name_view : name.Name → Text
name_view n = rc_str_bytes n.text

abbrev pub path_view : path.Path → Name
path_view p = map rc_str_bytes p.words.items

-- ---- types

abbrev pub presence_view : presence.Presence → typing.Presence
presence_view presences.Required = typing.Required
presence_view presences.Optional = typing.Optional

-- an attribute: its name, whether it may be missing, and its type
pub record Written : Type 0 where
  pub name : Text
  pub presence : typing.Presence
  pub type : syntax.TypeSyntax

abbrev pub attributes_of : List Written → syntax.AttributesSyntax
attributes_of [] = syntax.no_attributes
attributes_of (w ∷ ws) = syntax.an_attribute w.name w.presence w.type (attributes_of ws)

-- one level, with the views of its parts in their places
abbrev pub type_step : TypeSyntax-F syntax.TypeSyntax Written → syntax.TypeSyntax
type_step (layer.Named p) = syntax.named (path_view p)
type_step (layer.Set t) = syntax.a_set t.value
type_step (layer.Record v) = syntax.a_record (attributes_of v.items)

abbrev pub attribute_step : Attribute-F syntax.TypeSyntax Written → Written
attribute_step a = record { name = name_view a.name; presence = presence_view a.presence; type = a.written }

abbrev pub type_view : TypeSyntax → syntax.TypeSyntax
type_view = fold-TypeSyntax syntax.TypeSyntax Written type_step attribute_step

abbrev pub attribute_view : Attribute → Written
attribute_view = fold-Attribute syntax.TypeSyntax Written type_step attribute_step

abbrev pub attributes_view : List Attribute → syntax.AttributesSyntax
attributes_view xs = attributes_of (map attribute_view xs)

-- ---- declarations

abbrev pub names_view : List name.Name → List Text
names_view ns = map name_view ns

abbrev pub paths_view : List path.Path → List Name
paths_view ps = map path_view ps

abbrev pub entity_view : entity.EntitySyntax → syntax.EntitySyntax
entity_view e = record {
  names = names_view e.names.items;
  parents = paths_view e.parents.items;
  attributes = attributes_view e.attributes.items;
  tags = option_map type_view e.tags;
}

abbrev pub ref_view : action_ref.ActionRef → syntax.ActionRef
ref_view r = record { type_name = option_map path_view r.type_name; name = rc_str_bytes r.name }

abbrev pub entry_view : entry.AppliesEntry → syntax.AppliesEntry
entry_view (entries.Principals ps at) = syntax.principals (paths_view ps.items)
entry_view (entries.Resources ps at) = syntax.resources (paths_view ps.items)
entry_view (entries.Context t at) = syntax.context (type_view t)

abbrev pub action_view : action.ActionSyntax → syntax.ActionSyntax
action_view a = record {
  names = names_view a.names.items;
  groups = map ref_view a.groups.items;
  applies_to = option_map (λ es. map entry_view es.items) a.applies_to;
}

abbrev pub declaration_view : declaration.Declaration → syntax.Declaration
declaration_view (declarations.Entities e) = syntax.entities (entity_view e)
declaration_view (declarations.Enumeration e) = syntax.enumeration (names_view e.names.items) (map rc_str_bytes e.ids.items)
declaration_view (declarations.Actions a) = syntax.actions (action_view a)
declaration_view (declarations.CommonType c) = syntax.common_type (name_view c.name) (type_view c.written)

-- a declaration that stands in no namespace has the empty path
abbrev pub namespace_view : block.Namespace → syntax.Namespace
namespace_view n = record { path = unwrap_or (option_map path_view n.path) []; declarations = map declaration_view n.declarations.items }

abbrev pub schema_view : schema.SchemaSyntax → syntax.SchemaSyntax
schema_view s = map namespace_view s.namespaces.items
