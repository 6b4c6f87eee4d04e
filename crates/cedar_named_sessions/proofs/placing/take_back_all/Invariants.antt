-- Those behind have none any more.
use Rattle.std.proofs.Common.{◌≡◌, ◌≤◌, drop, length}
use Rattle.cedar_named_sessions.specs.Giving.{without_all}
use Rattle.cedar_named_sessions.proofs.placing.take_back_all.Given as goal

abbrev pub invariant-loop-left : goal.invariant-loop-left
invariant-loop-left l = record {
  back : l.names ≡ without_all (drop l.left l.placed) l.initial.names;
  within : l.left ≤ length l.placed;
}

abbrev pub decreases-loop-left : goal.decreases-loop-left
decreases-loop-left l = l.left
