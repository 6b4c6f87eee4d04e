-- Types whose values may be compared by `<`.
use Rattle.std.specs.Prelude.{Bool, false, ◌&&◌, ◌||◌, Option, Some, None}
use Rattle.cedar_language.specs.Uid.{Name}
use Rattle.cedar_language.specs.Order.{same_name}
use Rattle.cedar_typing.specs.Types.{CedarType}
use Rattle.cedar_typechecker.specs.Types.{is_long, ordered_in}

abbrev pub are_longs : CedarType → CedarType → Bool
are_longs t u = is_long t && is_long u

-- both are one extension type that has an order
abbrev pub are_ordered : Option Name → Option Name → Bool
are_ordered (Some n) (Some m) = same_name n m
are_ordered x y = false

abbrev pub are_less_comparable : CedarType → CedarType → Bool
are_less_comparable t u = are_longs t u || are_ordered (ordered_in t) (ordered_in u)
