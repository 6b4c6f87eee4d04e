-- The views of types, by the views of their parts.
use Rattle.std.proofs.Common.{◌≡◌, Box, Vec, Global, sym, ap, ◌∙◌}
use Rattle.cedar_schema_grammar.specs.Syntax as syntax
use Rattle.cedar_schema_syntax.specs.declared.names.Name as name
use Rattle.cedar_schema_syntax.specs.declared.names.Path.{Path}
use Rattle.cedar_schema_syntax.specs.declared.types.Presence.{Presence}
use Rattle.cedar_schema_syntax.specs.declared.types.TypeSyntax.{TypeSyntax, fold-roll-TypeSyntax}
use Rattle.cedar_schema_syntax.specs.declared.types.TypeSyntax.TheVariants as types
use Rattle.cedar_schema_syntax.specs.declared.types.Attribute.{Attribute, roll-Attribute, out-Attribute, fold-roll-Attribute, fold_out-Attribute}
use Rattle.cedar_schema_syntax.specs.View.{name_view, path_view, presence_view, Written, type_step, attribute_step, type_view, attribute_view, attributes_view}

pub named_view : (p : Path) → type_view (types.Named p) ≡ syntax.named (path_view p)
named_view p = ap type_view (sym (types.rolls-Named p)) ∙ fold-roll-TypeSyntax syntax.TypeSyntax Written type_step attribute_step _

pub set_view : (t : Box TypeSyntax Global) → type_view (types.Set t) ≡ syntax.a_set (type_view t.value)
set_view t = ap type_view (sym (types.rolls-Set t)) ∙ fold-roll-TypeSyntax syntax.TypeSyntax Written type_step attribute_step _

pub record_view : (v : Vec Attribute Global) → type_view (types.Record v) ≡ syntax.a_record (attributes_view v.items)
record_view v = ap type_view (sym (types.rolls-Record v)) ∙ fold-roll-TypeSyntax syntax.TypeSyntax Written type_step attribute_step _

-- an attribute, made of its parts
pub rolled_view : (n : name.Name) (p : Presence) (t : TypeSyntax)
    → attribute_view (roll-Attribute record { name = n; presence = p; written = t })
    ≡ record { name = name_view n; presence = presence_view p; type = type_view t }
rolled_view n p t = fold-roll-Attribute syntax.TypeSyntax Written type_step attribute_step record { name = n; presence = p; written = t }

-- and by its parts
pub parts_view : (a : Attribute)
    → attribute_view a ≡ record { name = name_view (out-Attribute a).name; presence = presence_view (out-Attribute a).presence; type = type_view (out-Attribute a).written }
parts_view a = fold_out-Attribute syntax.TypeSyntax Written type_step attribute_step a
