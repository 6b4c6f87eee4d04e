-- What is merged stands within the ids, which are still those.
use Rattle.std.proofs.Common.{length, ◌-◌, ◌≡◌, ◌≤◌}
use Rattle.std.specs.List.Sorted.{IsPermutation}
use Rattle.cedar_replies.proofs.runs.merge_runs.Given as goal

abbrev pub invariant-loop-from : goal.invariant-loop-from
invariant-loop-from l = (l.from ≤ length l.ids) × (length l.ids ≡ length l.initial.ids) × IsPermutation l.initial.ids l.ids

abbrev pub decreases-loop-from : goal.decreases-loop-from
decreases-loop-from l = length l.ids - l.from
