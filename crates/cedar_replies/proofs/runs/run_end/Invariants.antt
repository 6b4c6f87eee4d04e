-- The run goes on within the ids.
use Rattle.std.proofs.Common.{length, ◌-◌, ◌≤◌, ◌<◌}
use Rattle.cedar_replies.proofs.runs.run_end.Given as goal

abbrev pub invariant-loop-end : goal.invariant-loop-end
invariant-loop-end l = (l.from < l.end) × (l.end ≤ length l.ids)

abbrev pub decreases-loop-end : goal.decreases-loop-end
decreases-loop-end l = length l.ids - l.end
