-- No uids rise.
use Rattle.std.proofs.Common.{arith, sym, subst}
use Rattle.std.specs.List.Sorted.{IsStrictlySortedBy}
use Rattle.cedar_entities.specs.Lists.{IsKept}
use Rattle.cedar_entities.proofs.uid_lists.EntityUIDs.new.Goals as goal

pub invariant_of-result : goal.invariant_of-result
unfolding IsStrictlySortedBy
invariant_of-result c = subst IsKept (sym c.new.ensures.items) (record { rising = tt; small = omega arith })
