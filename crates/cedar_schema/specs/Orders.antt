-- Graphs over numbers, and orders in which what edges lead to comes first.
use Rattle.std.specs.Prelude.{◌≡◌, ℕ, List, [], length, ◌<◌, slice_index, ⊤}
use Rattle.std.specs.Global.{Vec}
use Rattle.std.specs.List.{slice_get}
use Rattle.std.specs.Option.{option_map_or}
use Rattle.cedar_language.specs.Facts.{Reaches}
use Rattle.cedar_schema.specs.declared.ordering.OrderError.{OrderError}
use Rattle.cedar_schema.specs.declared.ordering.OrderError.TheVariants as error

-- the numbers to which edges lead from a number
abbrev pub targets_of : List (Vec ℕ) → ℕ → List ℕ
targets_of edges i = option_map_or (λ row. row.items) (slice_get edges i) []

-- a number stands before the place k
abbrev pub StandsBefore : ℕ → List ℕ → ℕ → Type 0
StandsBefore k xs q = (j : ℕ) × (j < k) × (slice_index xs j ≡ q)

abbrev pub StandsIn : List ℕ → ℕ → Type 0
StandsIn xs q = StandsBefore (length xs) xs q

-- an edge leads from a to b
abbrev pub HasTarget : List (Vec ℕ) → ℕ → ℕ → Type 0
HasTarget edges a b = StandsIn (targets_of edges a) b

-- each edge leads to one of the numbers
abbrev pub AreWithin : List (Vec ℕ) → Type 0
AreWithin edges = (a b : ℕ) → HasTarget edges a b → b < length edges

-- each number stands behind those that edges lead to from it
abbrev pub TargetsComeFirst : List (Vec ℕ) → List ℕ → Type 0
TargetsComeFirst edges order = (k t : ℕ) → k < length order → HasTarget edges (slice_index order k) t → StandsBefore k order t

-- all numbers of a graph, each behind those that edges lead to from it
pub record IsOrder (edges : List (Vec ℕ)) (order : List ℕ) : Type 0 where
  pub whole : (q : ℕ) → q < length edges → StandsIn order q
  pub below : (k : ℕ) → k < length order → slice_index order k < length edges
  pub first : TargetsComeFirst edges order

-- one or more edges lead from the number that is told to itself
abbrev pub IsCycleOf : List (Vec ℕ) → OrderError → Type 0
IsCycleOf edges (error.Cycle number) = Reaches (HasTarget edges) number number
IsCycleOf edges error.Memory = ⊤
