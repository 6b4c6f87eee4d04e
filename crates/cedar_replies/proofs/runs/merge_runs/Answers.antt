-- A part of the ids that only changes its order leaves the same ids.
use Rattle.std.proofs.Common.{rules}
use Rattle.std.proofs.lemmas.List.Sorted.{IsPermutation-put_mid, IsPermutation-trans}
use Rattle.cedar_replies.proofs.runs.merge_runs.Goals as goal

pub loop-from-preserved : goal.loop-from-preserved
loop-from-preserved c = (search rules, search rules, IsPermutation-trans _ _ _ c.loop-from.invariant.2 (IsPermutation-put_mid 0 _ c.loop-from.ids c.merge.new.ids c.merge.ensures.same))
