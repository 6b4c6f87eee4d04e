-- The types of operators that look at values alone.
use Rattle.std.specs.Prelude.{true, cond, List, [], ◌∷◌, Option, Some, None}
use Rattle.cedar_language.specs.Uid.{Name}
use Rattle.cedar_language.specs.Order.{same_name}
use Rattle.cedar_typing.specs.Types.{BoolType, AlwaysTrue, AlwaysFalse, Unsure, CedarType, Booleans, Longs, Strings, Entities, Sets, Extensions, lub}
use Rattle.cedar_typing.specs.Schema.{EntityShape, Schema}
use Rattle.cedar_typing.specs.Faults.{UnrecognizedEntityType, UnexpectedType, IncompatibleTypes}
use Rattle.cedar_typing.specs.Results.{Typing, Faulty, plainly, known, unsure}

abbrev pub not_bool : BoolType → BoolType
not_bool AlwaysTrue = AlwaysFalse
not_bool AlwaysFalse = AlwaysTrue
not_bool Unsure = Unsure

-- `!` turns what is known
abbrev pub not_type : List CedarType → Typing
not_type (Booleans t ∷ []) = plainly (Booleans (not_bool t))
not_type ts = Faulty UnexpectedType

-- `-` of one operand
abbrev pub neg_type : List CedarType → Typing
neg_type (Longs ∷ []) = plainly Longs
neg_type ts = Faulty UnexpectedType

-- `isEmpty`
abbrev pub is_empty_type : List CedarType → Typing
is_empty_type (Sets t ∷ []) = unsure
is_empty_type ts = Faulty UnexpectedType

-- `<` and `<=`: of two longs, or of two values of one extension type that has an order
abbrev pub less_type : List CedarType → Typing
less_type (Longs ∷ Longs ∷ []) = unsure
less_type (Extensions n true ∷ Extensions m true ∷ []) = cond (same_name n m) unsure (Faulty UnexpectedType)
less_type ts = Faulty UnexpectedType

-- `+`, `-`, `*`
abbrev pub arithmetic_type : List CedarType → Typing
arithmetic_type (Longs ∷ Longs ∷ []) = plainly Longs
arithmetic_type ts = Faulty UnexpectedType

abbrev pub where_comparable : Option CedarType → Typing
where_comparable (Some t) = unsure
where_comparable None = Faulty IncompatibleTypes

-- `contains`, and `containsAll` and `containsAny`: of elements that have a least type above them
abbrev pub contains_type : List CedarType → Typing
contains_type (Sets t ∷ u ∷ []) = where_comparable (lub t u)
contains_type ts = Faulty UnexpectedType

abbrev pub two_sets_type : List CedarType → Typing
two_sets_type (Sets t ∷ Sets u ∷ []) = where_comparable (lub t u)
two_sets_type ts = Faulty UnexpectedType

-- `like`
abbrev pub like_type : List CedarType → Typing
like_type (Strings ∷ []) = unsure
like_type ts = Faulty UnexpectedType

-- `is`: the type that it names must be declared
abbrev pub where_declared : Option EntityShape → Typing → Typing
where_declared (Some s) x = x
where_declared None x = Faulty UnrecognizedEntityType

abbrev pub is_type : Schema → Name → List CedarType → Typing
is_type s n (Entities m ∷ []) = where_declared (s.entity n) (known (same_name m n))
is_type s n ts = Faulty UnexpectedType
