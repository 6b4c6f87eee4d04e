-- A graph by the node that is found at each key. `eq` says which keys are one, and `edges` to which keys edges lead from a node.
use Rattle.std.specs.Prelude.{Bool, false, cond, ◌||◌, ◌&&◌, List, [], IsTrue, ◌≡◌, ◌↔◌}
use Rattle.std.specs.Option.{option_map_or, MatchOption, IsSomeAnd, is_some}
use Rattle.std.specs.declared.option.Option.{Option}
use Rattle.std.specs.declared.option.Option.TheVariants.{None}
use Rattle.std.specs.Set.{is_member}
use Rattle.cedar_language.specs.Facts.{Reaches}

module _ {K : Type 0} (eq : K → K → Bool) where
  -- ys has the keys that xs has
  abbrev pub SameKeys : List K → List K → Type 0
  SameKeys xs ys = (q : K) → is_member eq ys q ≡ is_member eq xs q

  -- each key that isn't listed has an edge to all that it reaches
  abbrev pub IsClosedBeside : List K → (K → K → Type 0) → Type 0
  IsClosedBeside listed IsEdge = (a b : K) → is_member eq listed a ≡ false → Reaches IsEdge a b → IsEdge a b

  -- each key that isn't listed has edges to just those that direct ones reach from it
  abbrev pub IsBuiltBeside : List K → (K → K → Type 0) → (K → K → Type 0) → Type 0
  IsBuiltBeside listed IsDirect IsEdge = (a b : K) → is_member eq listed a ≡ false → IsEdge a b ↔ Reaches IsDirect a b

-- the edges of the first graph are there, and no others than those of the second
pub record IsBetween {K : Type 0} (Least Most IsEdge : K → K → Type 0) : Type 0 where
  pub least : (a b : K) → Least a b → IsEdge a b
  pub most : (a b : K) → IsEdge a b → Most a b

module _ {K V : Type 0} (edges : V → List K) where
  -- where the edges of the node at k lead; nowhere, if there is no node
  abbrev pub edges_at : (K → Option V) → K → List K
  edges_at found k = option_map_or edges (found k) []

module _ {K V : Type 0} (direct edges : V → List K) where
  -- the direct ones of a node's edges, or all
  abbrev pub edges_of : Bool → V → List K
  edges_of only_direct v = cond only_direct (direct v) (edges v)

module _ {K V : Type 0} (eq : K → K → Bool) (edges : V → List K) where
  -- an edge leads from the node at a to b
  abbrev pub HasEdge : (K → Option V) → K → K → Type 0
  HasEdge found a b = IsTrue (is_member eq (edges_at edges found a) b)

  -- whether an edge leads from the node at a to b once there is one from the node at `from` to each of the keys
  abbrev pub has_edge_with : (K → Option V) → K → List K → K → K → Bool
  has_edge_with found from keys a b = is_member eq (edges_at edges found a) b || (is_some (found a) && (eq a from && is_member eq keys b))

module _ {K V : Type 0} (Same : V → V → Type 0) where
  -- n has a node where m has one, and the two are the same but for edges
  abbrev pub SameNodes : (K → Option V) → (K → Option V) → Type 0
  SameNodes m n = (q : K) → MatchOption (m q) (n q ≡ None) (λ v. IsSomeAnd (n q) (Same v))
