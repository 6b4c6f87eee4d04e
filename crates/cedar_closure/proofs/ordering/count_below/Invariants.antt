use Rattle.std.proofs.Common.{◌≤◌}
use Rattle.cedar_closure.proofs.ordering.count_below.Given as goal

abbrev pub invariant-loop-target : goal.invariant-loop-target
invariant-loop-target l = record {
  most : l.count ≤ l.target-index;
}
