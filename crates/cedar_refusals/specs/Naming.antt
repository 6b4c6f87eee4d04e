-- Names: whether one stands among others, and how they are told.
use Rattle.std.specs.Prelude.{Bool, List, ◌++◌, codes}
use Rattle.std.specs.List.{list_any}
use Rattle.cedar_language.specs.Uid.{Text}
use Rattle.cedar_literals.specs.Escapes.{escaped}
use Rattle.cedar_world.specs.Orders.{text_eq}

abbrev pub stands : List Text → Text → Bool
stands names n = list_any (λ m. text_eq m n) names

-- a name as a body has it
abbrev pub in_quotes : Text → Text
in_quotes n = (codes "\"" ++ escaped n) ++ codes "\""
