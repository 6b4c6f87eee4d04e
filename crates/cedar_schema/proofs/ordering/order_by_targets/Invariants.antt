-- The numbers so far are seen.
use Rattle.std.proofs.Common.{◌≡◌, ◌<◌, ℕ, [], false, IsTrue}
use Rattle.std.specs.List.{slice_index_or}
use Rattle.cedar_schema.specs.Walks.{IsWalk}
use Rattle.cedar_schema.proofs.ordering.order_by_targets.Given as goal

abbrev pub invariant-loop-number : goal.invariant-loop-number
invariant-loop-number l = record {
  walk : IsWalk l.walk;
  edges : l.walk.edges.now ≡ l.edges;
  path : l.walk.path.items ≡ [];
  seen : (q : ℕ) → q < l.number → IsTrue (slice_index_or l.walk.is_seen.items q false);
}
