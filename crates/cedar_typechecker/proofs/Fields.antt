-- The fields of an entity type, and of a list without its first.
use Rattle.std.proofs.Common.{◌≡◌, ◌∙◌, refl, sym, ap, ℕ, ◌+◌, ◌<◌, List, ◌∷◌, drop, get_or, length, Option, Some, None}
use Rattle.std.specs.Prelude.{cond}
use Rattle.std.specs.Option.{option_map}
use Rattle.std.proofs.lemmas.List.{at_drop_more}
use Rattle.cedar_language.specs.Uid.{Text}
use Rattle.cedar_language.specs.Order.{same_text}
use Rattle.cedar_typing.specs.Types.{Fields, field_at}
use Rattle.cedar_typing.specs.Schema.{EntityShape}
use Rattle.cedar_typing.specs.Attributes.{Attributes, of_shape, of_entity, of_none}
use Rattle.cedar_typing.specs.Faults.{UnrecognizedEntityType}
use Rattle.cedar_typechecker.specs.Types.{field_view, fields_view}
use Rattle.cedar_typechecker.specs.Attributes.{field_part}
use Rattle.cedar_typechecker.specs.declared.types.Field.{Field}

abbrev by_option : Option EntityShape → Attributes
by_option (Some s) = of_entity s.attributes
by_option None = of_none UnrecognizedEntityType

pub by_shape : (o : Option EntityShape) → of_shape o ≡ by_option o
by_shape (Some s) = refl
by_shape None = refl

pub field_step : (fs : List Field) (i : ℕ) (f : Field) (a : Text) → i < length fs → f ≡ get_or fs i f → field_at (fields_view (drop i fs)) a ≡ cond (same_text (field_view f).0 a) (Some (field_part f)) (field_at (fields_view (drop (i + 1) fs)) a)
field_step fs i f a lt is = at_drop_more (λ (l : List Field). field_at (fields_view l) a) fs i f lt ∙ ap (λ (g : Field). field_at (fields_view (g ∷ drop (i + 1) fs)) a) (sym is)
