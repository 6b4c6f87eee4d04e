-- Each uid that was taken is one of those passed over, so what is left beside these stays.
use Rattle.std.proofs.Common.{◌≡◌, length}
use Rattle.std.specs.Slice.Iter.{iter_rest}
use Rattle.cedar_entities.specs.Lists.{beside}
use Rattle.cedar_entities.proofs.iteration.next_beside.Given as goal

abbrev pub invariant-loop-uid : goal.invariant-loop-uid
invariant-loop-uid l = beside l.passed (iter_rest l.initial.uids) ≡ beside l.passed (iter_rest l.uids)

abbrev pub decreases-loop-uid : goal.decreases-loop-uid
decreases-loop-uid l = length (iter_rest l.uids)
