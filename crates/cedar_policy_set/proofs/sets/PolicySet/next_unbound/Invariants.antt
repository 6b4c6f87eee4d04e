-- Each number that was passed over is bound.
use Rattle.std.proofs.Common.{◌≤◌, ◌-◌, ◌^◌}
use Rattle.cedar_policy_set.specs.Numbers.{BindsNumbers}
use Rattle.cedar_policy_set.proofs.sets.PolicySet.next_unbound.Given as goal

abbrev pub invariant-loop-number : goal.invariant-loop-number
invariant-loop-number l = record {
  reached : l.from ≤ l.number;
  passed : BindsNumbers l.self l.from l.number;
}

abbrev pub decreases-loop-number : goal.decreases-loop-number
decreases-loop-number l = 2 ^ 64 - l.number
