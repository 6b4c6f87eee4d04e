-- Graphs over numbers, and sets of numbers.
use Rattle.std.specs.Prelude.{false, ℕ, List, [], length, IsTrue, ◌≡◌, ◌<◌, ◌↔◌, nat_eq}
use Rattle.std.specs.Global.{Vec}
use Rattle.std.specs.List.{IsDistinct, slice_index_or, slice_get}
use Rattle.std.specs.Option.{option_map_or}
use Rattle.std.specs.Set.{is_member}
use Rattle.cedar_language.specs.Facts.{Reaches}
use Rattle.cedar_closure.specs.declared.numbers.NumberSet.{NumberSet}

-- the marks are those of the members, and no member stands there twice
pub record IsSet (set : NumberSet) : Type 0 where
  pub marked : (q : ℕ) → slice_index_or set.is_member.items q false ≡ is_member nat_eq set.members.items q
  pub distinct : IsDistinct nat_eq set.members.items

-- the numbers that are listed at a number
abbrev pub numbers_at : List (Vec ℕ) → ℕ → List ℕ
numbers_at rows i = option_map_or (λ row. row.items) (slice_get rows i) []

-- an edge leads from a to b
abbrev pub HasTarget : List (Vec ℕ) → ℕ → ℕ → Type 0
HasTarget edges a b = IsTrue (is_member nat_eq (numbers_at edges a) b)

-- each edge leads to one of the numbers
abbrev pub AreWithin : List (Vec ℕ) → Type 0
AreWithin edges = (a b : ℕ) → HasTarget edges a b → b < length edges

-- at each of the first numbers there is all that it reaches
abbrev pub AreReached : List (Vec ℕ) → List (Vec ℕ) → Type 0
AreReached edges rows = (a : ℕ) → a < length rows → (b : ℕ) → IsTrue (is_member nat_eq (numbers_at rows a) b) ↔ Reaches (HasTarget edges) a b
