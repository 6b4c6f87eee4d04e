-- The parts of a raw string.
use Rattle.std.specs.Prelude.{◌≡◌, ℕ, ◌<◌, List, length, Some, None}
use Rattle.std.specs.Str.{chars}
use Rattle.cedar_grammar.specs.Escape as escapes
use Rattle.cedar_grammar.specs.Escape.{Place, between, before, parts_from}
use Rattle.cedar_tokens.specs.declared.escapes.Part.{Part}
use Rattle.cedar_tokens.specs.declared.escapes.Part.TheVariants.{Itself, Named, Star}
use Rattle.cedar_tokens.specs.Rest.{IsRest}

abbrev pub part_view : Part → escapes.Part
part_view (Itself c) = escapes.itself c
part_view (Named c) = escapes.named c
part_view Star = escapes.star

-- at this place, no part stands at the start of the raw text
abbrev pub RefusesPart : Place → List ℕ → Type 0
RefusesPart place raw = parts_from place (chars raw) ≡ None

-- at this place, the raw text ends a part, and then the rest follows
pub record ReadsPart (place : Place) (raw : List ℕ) (p : escapes.Part) (rest : List ℕ) : Type 0 where
  pub parts : parts_from place (chars raw) ≡ before (Some p) (parts_from between (chars rest))
  pub cut : IsRest raw rest
  pub shorter : length rest < length raw
