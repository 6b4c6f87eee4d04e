-- The places that are taken out rise, so those that are below one come first.
use Rattle.std.proofs.Common.{rules, arith, ltb, ltb-true, ltb-false, sym, subst}
use Rattle.std.specs.List.Sorted.{IsNonDecreasing}
use Rattle.std.proofs.lemmas.List.Sorted.{IsPartitionPoint-from_clause, IsPartitionedBy-ltb}
use Rattle.cedar_policy_set.specs.ClosedPlaces.{AreBefore}
use Rattle.cedar_policy_set.proofs.gaps.Gaps.before.Goals as goal

pub returns : goal.returns
returns c =
    let rising = subst IsNonDecreasing (sym c.deref.ensures.value) c.args.self.now.rising in
    let parted = IsPartitionedBy-ltb (λ g. g) _ c.args.place rising in
    let point = IsPartitionPoint-from_clause (λ g. ltb g c.args.place) _ _ c.partition_point.ensures.partitioned parted (λ a r q k. search rules) in
    let bound = c.partition_point.ensures.bound in
    subst (λ gs. AreBefore gs c.args.place c.partition_point.result) c.deref.ensures.value (record {
      within = bound;
      below = λ k l. ltb-true _ _ (point.0 k 0 (omega arith) l);
      others = λ k a l. ltb-false _ _ (point.1 k 0 a l);
    })
