-- What is sorted and has no doubles rises, and holds what it held.
use Rattle.std.proofs.Common.{sym, subst}
use Rattle.std.specs.Prelude.{nat_eq}
use Rattle.std.specs.List.Sorted.{IsStrictlyIncreasing}
use Rattle.std.proofs.lemmas.List.Filters.{dedup_is}
use Rattle.std.proofs.lemmas.Map.Keys.{IsStrictlyIncreasing-dedup}
use Rattle.cedar_policy_set.specs.ScopeFinding.{AreAmong}
use Rattle.cedar_evaluator.proofs.Listed.{among_sorted}
use Rattle.cedar_evaluator.proofs.candidates.in_order.Goals as goal

pub returns-clause-rising : goal.returns-clause-rising
returns-clause-rising c =
    let sorted = c.sort_unstable.new.self.items in
    subst IsStrictlyIncreasing (sym (dedup_is nat_eq sorted c.dedup.new.self.items c.dedup.ensures.filtered)) (IsStrictlyIncreasing-dedup sorted c.sort_unstable.ensures.sorted)

pub returns-clause-kept : goal.returns-clause-kept
returns-clause-kept c =
    let sorted = c.sort_unstable.new.self.items in
    subst (AreAmong c.args.positions.items) (sym (dedup_is nat_eq sorted c.dedup.new.self.items c.dedup.ensures.filtered)) (among_sorted c.args.positions.items sorted c.sort_unstable.ensures.permutation)
