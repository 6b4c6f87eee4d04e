use Rattle.std.proofs.Common.{◌≡◌, ◌+◌, ◌*◌, ℕ, length, false, not, IsTrue}
use Rattle.std.specs.Prelude.{count_by}
use Rattle.std.specs.List.{slice_index_or}
use Rattle.cedar_schema.specs.Walks.{IsWalk}
use Rattle.cedar_schema.proofs.ordering.Walk.walk_from.Given as goal

abbrev pub invariant-loop-top : goal.invariant-loop-top
invariant-loop-top l = record {
  walk : IsWalk l.self;
  edges : l.self.edges.now ≡ l.fn.self.edges.now;
  kept : (q : ℕ) → IsTrue (slice_index_or l.fn.self.is_seen.items q false) → IsTrue (slice_index_or l.self.is_seen.items q false);
  root : IsTrue (slice_index_or l.self.is_seen.items l.root false);
}

abbrev pub decreases-loop-top : goal.decreases-loop-top
decreases-loop-top l = 2 * count_by not l.self.is_seen.items + length l.self.path.items
