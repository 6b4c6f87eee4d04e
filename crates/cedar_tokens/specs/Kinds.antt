-- Sets of kinds of tokens.
use Rattle.std.specs.Prelude.{ℕ, Bool, not, ◌==◌, bit_and, List, map, filter}
use Rattle.std.specs.Borrow.{Bor}
use Rattle.cedar_tokens.specs.declared.expected_kinds.Kinds.{Kinds}
use Rattle.cedar_tokens.specs.declared.expected_kinds.TheConstants.{KIND_NAMES}

-- one of those kinds is among these
abbrev pub meets : Kinds → Kinds → Bool
meets kinds others = not (bit_and kinds.0 others.0 == 0)

-- kinds with their names
abbrev pub named : List (Kinds × Bor (List ℕ)) → List (Kinds × List ℕ)
named table = map (λ x. (x.0, x.1.now)) table

-- the names that a table has for these kinds, in its order
abbrev pub names_in : Kinds → List (Kinds × List ℕ) → List (List ℕ)
names_in kinds table = map (λ x. x.1) (filter (λ x. meets kinds x.0) table)

-- the names of these kinds
abbrev pub names_of : Kinds → List (List ℕ)
names_of kinds = names_in kinds (map (λ x. (x.0, x.1.now)) KIND_NAMES)
