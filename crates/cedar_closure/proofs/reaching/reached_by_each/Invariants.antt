use Rattle.std.proofs.Common.{◌≡◌, ◌||◌, ◌<◌, ℕ, [], IsTrue, false, drop, length, nat_eq, slice_index_or}
use Rattle.std.specs.Set.{is_member}
use Rattle.cedar_closure.specs.Numbers.{IsSet}
use Rattle.cedar_closure.specs.Searching.{AreRows}
use Rattle.cedar_closure.proofs.reaching.reached_by_each.Given as goal

abbrev pub invariant-loop-index : goal.invariant-loop-index
invariant-loop-index l = record {
  set : IsSet l.search.found;
  none_found : l.search.found.members.items ≡ [];
  none_pending : l.search.pending.items ≡ [];
  bound : length l.search.found.is_member.items ≡ length l.edges;
  rows : AreRows l.rows;
  edges : l.rows.edges.now ≡ l.edges;
  count : length l.rows.rows.items ≡ l.count;
  known : (a : ℕ) → a < l.count → IsTrue (slice_index_or l.rows.is_known.items a false || is_member nat_eq (drop l.index l.order.members.items) a);
}
