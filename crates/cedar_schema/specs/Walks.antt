-- A walk along the edges of a graph over numbers.
use Rattle.std.specs.Prelude.{◌≡◌, ◌≤◌, ◌<◌, ℕ, List, length, false, IsTrue, AllPairs, slice_index}
use Rattle.std.specs.List.{slice_index_or}
use Rattle.cedar_language.specs.Facts.{Reaches}
use Rattle.cedar_schema.specs.Orders.{targets_of, StandsIn, HasTarget, TargetsComeFirst}
use Rattle.cedar_schema.specs.declared.ordering.Walk.{Walk}

-- a walk under way: what is on its path leads to what follows, and what is done stands in order
pub record IsWalk (w : Walk) : Type 0 where
  pub left_count : length w.left.items ≡ length w.edges.now
  pub seen_count : length w.is_seen.items ≡ length w.edges.now
  pub done_count : length w.is_done.items ≡ length w.edges.now
  pub left_below : (v : ℕ) → slice_index w.left.items v ≤ length (targets_of w.edges.now v)
  pub path_below : (k : ℕ) → k < length w.path.items → slice_index w.path.items k < length w.edges.now
  pub order_below : (k : ℕ) → k < length w.order.items → slice_index w.order.items k < length w.edges.now
  -- what is seen is on the path until it is done
  pub on_path : (q : ℕ) → IsTrue (slice_index_or w.is_seen.items q false) → slice_index_or w.is_done.items q false ≡ false → StandsIn w.path.items q
  pub leads : AllPairs (Reaches (HasTarget w.edges.now)) w.path.items
  -- the targets that are followed are done
  pub followed : (v k : ℕ) → slice_index w.left.items v ≤ k → k < length (targets_of w.edges.now v) → IsTrue (slice_index_or w.is_done.items (slice_index (targets_of w.edges.now v) k) false)
  pub ordered : (q : ℕ) → IsTrue (slice_index_or w.is_done.items q false) → StandsIn w.order.items q
  pub first : TargetsComeFirst w.edges.now w.order.items
