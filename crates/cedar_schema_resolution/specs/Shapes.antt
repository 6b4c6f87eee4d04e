-- The shapes of entity types, by a table in which common types are unfolded.
use Rattle.std.specs.Prelude.{◌≡◌, length, Option, option_map}
use Rattle.cedar_language.specs.Uid.{Name}
use Rattle.cedar_grammar.specs.Steps.{◌>>=◌}
use Rattle.cedar_typing.specs.Types.{CedarType}
use Rattle.cedar_typing.specs.Schema as typing
use Rattle.cedar_schema_grammar.specs.Syntax.{TypeSyntax}
use Rattle.cedar_schema_grammar.specs.Declared.{Library, EntityBody, Declared}
use Rattle.cedar_schema_grammar.specs.Written.{unfolded, type_in}
use Rattle.cedar_schema_grammar.specs.Resolving.{body_shape}
use Rattle.cedar_schema.specs.Types.{type_view, fields_of}
use Rattle.cedar_schema.specs.Tables.{IsTableOf}
use Rattle.cedar_schema.specs.declared.tables.TypeTable.{TypeTable}
use Rattle.cedar_schema_resolution.specs.declared.shapes.EntityShape.{EntityShape}

abbrev pub shape_view : EntityShape → typing.EntityShape
shape_view s = record { attributes = fields_of s.attributes; tags = option_map type_view s.tags }

-- the table has each common type unfolded
abbrev pub IsUnfolded : Declared → Library → TypeTable → Type 0
IsUnfolded d l t = IsTableOf (unfolded (length d.types) d l) d l t

-- whatever is declared that the table has: this is the shape of an entity type with this body
abbrev pub IsShapeOf : TypeTable → Name → EntityBody → Option typing.EntityShape → Type 0
IsShapeOf t namespace body o = (d : Declared) (l : Library) → IsUnfolded d l t → o ≡ body_shape d l namespace body

-- and this the type of its tags
abbrev pub AreTags : TypeTable → Name → Option TypeSyntax → Option CedarType → Type 0
AreTags t namespace tags o = (d : Declared) (l : Library) → IsUnfolded d l t → o ≡ (tags >>= type_in d l namespace)
