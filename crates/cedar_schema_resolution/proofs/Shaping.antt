-- A shape is what is made of its attributes and its tags.
use Rattle.std.proofs.Common.{length, Option, Some, None, ap, ◌∙◌}
use Rattle.std.specs.Prelude.{option_map}
use Rattle.std.specs.BTreeMap.{BTreeMap}
use Rattle.cedar_language.specs.Uid.{Text, Name}
use Rattle.cedar_grammar.specs.Steps.{◌>>=◌}
use Rattle.cedar_typing.specs.Types.{CedarType, Records}
use Rattle.cedar_schema_grammar.specs.Syntax.{TypeSyntax, a_record, EntitySyntax}
use Rattle.cedar_schema_grammar.specs.Declared.{shaped}
use Rattle.cedar_schema_grammar.specs.Written.{unfolded, type_in}
use Rattle.cedar_schema_grammar.specs.Resolving as grammar
use Rattle.cedar_schema.specs.Types.{fields_of}
use Rattle.cedar_schema.specs.Tables.{IsWritten}
use Rattle.cedar_schema.specs.declared.tables.TypeTable.{TypeTable}
use Rattle.cedar_schema.specs.declared.types.AttributeType.{AttributeType}
use Rattle.cedar_schema_resolution.specs.Shapes.{IsShapeOf, AreTags}

pub tags_written : (t : TypeTable) (namespace : Name) (s : TypeSyntax) (o : Option CedarType) → IsWritten t namespace s o → AreTags t namespace (Some s) o
tags_written t namespace s o f = λ d l is. f (unfolded (length d.types) d l) d l is

module _ (t : TypeTable) (namespace : Name) (s : EntitySyntax) where
  pub shape_written : (m : BTreeMap Text AttributeType) (tags : Option CedarType)
      → IsWritten t namespace (a_record s.attributes) (Some (Records (fields_of m))) → AreTags t namespace s.tags tags
      → IsShapeOf t namespace (shaped s) (Some record { attributes = fields_of m; tags = tags })
  shape_written m tags f g = λ d l is.
      ap (λ o. Some record { attributes = fields_of m; tags = o }) (g d l is)
      ∙ ap (λ o. option_map (λ fs. record { attributes = fs; tags = s.tags >>= type_in d l namespace }) (grammar.fields_of o))
      (f (unfolded (length d.types) d l) d l is)

  pub no_shape : IsWritten t namespace (a_record s.attributes) None → IsShapeOf t namespace (shaped s) None
  no_shape f = λ d l is. ap (λ o. option_map (λ fs. record { attributes = fs; tags = s.tags >>= type_in d l namespace }) (grammar.fields_of o))
      (f (unfolded (length d.types) d l) d l is)
