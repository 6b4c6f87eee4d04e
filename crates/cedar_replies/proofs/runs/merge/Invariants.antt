-- What is left of the first run stands within the ids, which are still those.
use Rattle.std.proofs.Common.{length, ◌≡◌, ◌≤◌}
use Rattle.std.specs.List.Sorted.{IsPermutation}
use Rattle.cedar_replies.proofs.runs.merge.Given as goal

abbrev pub invariant-loop-left : goal.invariant-loop-left
invariant-loop-left l = (l.left ≤ length l.ids) × (length l.ids ≡ length l.initial.ids) × IsPermutation l.initial.ids l.ids

abbrev pub decreases-loop-left : goal.decreases-loop-left
decreases-loop-left l = l.left
