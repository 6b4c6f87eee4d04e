use Rattle.std.proofs.Common.{◌≡◌, length}
use Rattle.cedar_closure.proofs.ordering.target_counts.Given as goal

abbrev pub invariant-loop-from : goal.invariant-loop-from
invariant-loop-from l = record {
  counted : length l.counts.items ≡ l.from;
}
