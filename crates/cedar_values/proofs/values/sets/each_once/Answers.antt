-- Sorting keeps the members and `dedup` leaves one of each, so the list rises strictly.
use Rattle.cedar_values.proofs.Sets.{is_sorted, has_members}
use Rattle.cedar_values.proofs.values.sets.each_once.Goals as goal

pub returns-clause-rising : goal.returns-clause-rising
returns-clause-rising c = is_sorted _ _ c.in_ok-sort.ensures.sorted c.dedup.ensures.filtered

pub returns-clause-members : goal.returns-clause-members
returns-clause-members c = λ v. has_members _ _ _ c.sort.ensures.permutation c.dedup.ensures.filtered v
