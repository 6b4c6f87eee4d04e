-- A part of the ids that only changes its order leaves the same ids.
use Rattle.std.proofs.Common.{rules, ◌-◌}
use Rattle.std.proofs.lemmas.List.Sorted.{IsPermutation-put_mid, IsPermutation-trans}
use Rattle.cedar_replies.proofs.runs.merge.Goals as goal

pub loop-left-preserved : goal.loop-left-preserved
loop-left-preserved c = (search rules, search rules, IsPermutation-trans _ _ _ c.loop-left.invariant.2 (IsPermutation-put_mid (c.loop-left.left - 1) _ c.loop-left.ids c.settle_first.new.ids c.settle_first.ensures.same))
