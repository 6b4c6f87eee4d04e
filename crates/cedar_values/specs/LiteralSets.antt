-- Sets whose members are literals.
use Rattle.std.specs.Prelude.{List, Bool, Option, Some, None, if◌then◌else◌}
use Rattle.std.specs.List.{list_all, filter_map}
use Rattle.std.specs.Option.{is_some}
use Rattle.cedar_language.specs.Tree.{Literal}
use Rattle.cedar_language.specs.Value.{Value}
use Rattle.cedar_values.specs.Readers.{literal_in}

abbrev pub is_literal : Value → Bool
is_literal v = is_some (literal_in v)

-- whether each of these values is a literal
abbrev pub are_literals : List Value → Bool
are_literals vs = list_all is_literal vs

-- those of these values that are literals
abbrev pub literals_among : List Value → List Literal
literals_among vs = filter_map literal_in vs

-- the literals that these values are, where each is one
abbrev pub literals_in : List Value → Option (List Literal)
literals_in vs = if are_literals vs then Some (literals_among vs) else None
