-- The last place that stands there or before is between the two.
use Rattle.std.proofs.Common.{◌-◌, ◌<◌, ◌≤◌}
use Rattle.cedar_policy_set.specs.ClosedPlaces.{position_of}
use Rattle.cedar_policy_set.proofs.gaps.Gaps.place.Given as goal

abbrev pub invariant-loop-high : goal.invariant-loop-high
invariant-loop-high l = record {
  before : position_of l.self.taken.items l.low ≤ l.position;
  behind : l.position < position_of l.self.taken.items l.high;
  apart : l.low < l.high;
  within : l.high ≤ l.last;
}

abbrev pub decreases-loop-high : goal.decreases-loop-high
decreases-loop-high l = l.high - l.low
