-- The numbers of common types, by their names.
use Rattle.std.specs.Prelude.{◌≡◌, ℕ, List, Option, Some, None, option_map}
use Rattle.std.specs.List.{find, position_from}
use Rattle.std.specs.BTreeMap.{get}
use Rattle.cedar_language.specs.Uid.{Name}
use Rattle.cedar_language.specs.Order.{same_name, name_cmp}
use Rattle.cedar_schema_grammar.specs.Declared.{EntityType, CommonType, Declared, Referent, to_common, to_type, or_else, first_of, places, entity_name, type_name, declared_as}
use Rattle.cedar_schema_resolution.specs.declared.numbers.CommonNumbers.{CommonNumbers}

-- what stands at a full name: the number of a common type, or none of an entity type
abbrev pub number_at : CommonNumbers → Name → Option (Option ℕ)
number_at c n = get name_cmp c.by_name n

abbrev pub number_in : Option (Option ℕ) → Option ℕ
number_in (Some o) = o
number_in None = None

-- the number that a name stands for in a namespace
abbrev pub named_number : CommonNumbers → Name → Name → Option ℕ
named_number c namespace n = number_in (first_of (number_at c) (places namespace n))

-- the number of the first common type of a name, where the first of these has the number i
abbrev pub number_from : ℕ → List CommonType → Name → Option ℕ
number_from i ts n = position_from (λ t. same_name (type_name t) n) i ts

abbrev pub number_of : Declared → Name → Option ℕ
number_of d n = number_from 0 d.types n

-- what a name stands for has the number of its common type, or none
abbrev pub number_for : Declared → Referent → Option ℕ
number_for d (to_common t) = number_of d (type_name t)
number_for d (to_type t) = None

-- the numbers are those of what is declared
abbrev pub AreNumbersOf : Declared → CommonNumbers → Type 0
AreNumbersOf d c = (n : Name) → number_at c n ≡ option_map (number_for d) (declared_as d n)

-- these entity types are put, without numbers, over what stood at their names
abbrev pub HasNone : List EntityType → CommonNumbers → CommonNumbers → Type 0
HasNone es old new = (n : Name) → number_at new n ≡ or_else (option_map (λ e. None) (find (λ e. same_name (entity_name e) n) es)) (number_at old n)

-- these common types are put, with their numbers
abbrev pub AreNumbered : ℕ → List CommonType → CommonNumbers → CommonNumbers → Type 0
AreNumbered i ts old new = (n : Name) → number_at new n ≡ or_else (option_map Some (number_from i ts n)) (number_at old n)
