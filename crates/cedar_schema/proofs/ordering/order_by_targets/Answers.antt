-- All numbers are seen, and none is on the path.
use Rattle.std.proofs.Common.{◌≡◌, ◌<◌, length, sym, ap, subst, arith}
use Rattle.cedar_schema.specs.Orders.{AreWithin, IsOrder}
use Rattle.cedar_schema.proofs.Walking.{finished}
use Rattle.cedar_schema.proofs.ordering.order_by_targets.Goals as goal

pub walk_from-requires-clause-within : goal.walk_from-requires-clause-within
walk_from-requires-clause-within c = subst AreWithin (sym c.loop-number.invariant.edges) c.requires

pub returns-clause-order : goal.returns-clause-order
returns-clause-order c =
    let inv = c.loop-number.invariant in
    let same : length c.loop-number.walk.edges.now ≡ length c.args.edges.now = ap length inv.edges in
    subst (λ es. IsOrder es c.loop-number.walk.order.items) inv.edges
    (finished c.loop-number.walk inv.walk inv.path (λ q h. let low : q < length c.loop-number.walk.edges.now = h in inv.seen q (omega arith)))
