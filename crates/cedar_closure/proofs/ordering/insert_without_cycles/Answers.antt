-- No number is taken twice, so it ends.
use Rattle.std.proofs.Common.{◌≡◌, ◌≤◌, ◌<◌, ◌∙◌, sym, ap, length, nat_eq, subst, arith}
use Rattle.std.specs.Set.{is_member}
use Rattle.std.proofs.lemmas.Map.Steps.{length-le_from_distinct_below}
use Rattle.cedar_closure.proofs.NumberSets.{member_below}
use Rattle.cedar_closure.proofs.Numbered.{row_at}
use Rattle.cedar_closure.proofs.ordering.insert_without_cycles.Goals as goal

pub insert_freed-requires-clause-below : goal.insert_freed-requires-clause-below
insert_freed-requires-clause-below c = λ q h.
    let inv = c.loop-taken.invariant in
    let low : c.member-number.result < length c.loop-taken.order.is_member.items = c.member-number.ensures.below in
    let bound : length c.loop-taken.order.is_member.items ≡ length c.args.sources.now = inv.bound in
    let is = row_at c.args.sources.now c.member-number.result c.index-sources-number.result (omega arith) c.index-sources-number.is in
    subst (λ n. q < n) (sym inv.left) (c.requires.within c.member-number.result q (ap (λ ns. is_member nat_eq ns q) (is ∙ sym c.deref.ensures.value) ∙ h))

pub loop-taken-smaller : goal.loop-taken-smaller
loop-taken-smaller c =
    let order = c.loop-taken.order in
    let inv = c.loop-taken.invariant in
    let most : length c.loop-taken.order.members.items ≤ length c.loop-taken.order.is_member.items =
    length-le_from_distinct_below order.members.items (length order.is_member.items) inv.set.distinct (member_below order inv.set) in
    let same : length c.loop-taken.order.is_member.items ≡ length c.args.sources.now = inv.bound in
    let below : c.loop-taken.taken < length c.loop-taken.order.members.items = omega arith in
    omega arith
