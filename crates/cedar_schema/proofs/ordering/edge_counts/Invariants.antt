use Rattle.std.proofs.Common.{◌≡◌, ◌<◌, ℕ, length, slice_index}
use Rattle.cedar_schema.specs.Orders.{targets_of}
use Rattle.cedar_schema.proofs.ordering.edge_counts.Given as goal

abbrev pub invariant-loop-targets : goal.invariant-loop-targets
invariant-loop-targets l = record {
  counted : length l.counts.items ≡ l.targets-index;
  counts : (v : ℕ) → v < l.targets-index → slice_index l.counts.items v ≡ length (targets_of l.edges v);
}
