-- Each turn leaves one position fewer; what the walk needs is room that is there, or is needed by the stack still.
use Rattle.std.proofs.Common.{arith, rules}
use Rattle.cedar_shapes.proofs.Walking.{turn_is, turn_rises}
use Rattle.cedar_shapes.proofs.iteration.ExprIterator.new.Goals as goal

pub loop-next-smaller : goal.loop-next-smaller
loop-next-smaller g c =
    let turn = turn_is c.loop-next.ahead.items c.reserve.new.self.items c.push_parts.new.ahead.items c.in-Some.next (search (rules, c.in-Some.ensures.items, c.reserve.ensures.items)) c.push_parts.ensures.items in
    rw turn (omega arith)

pub loop-next-preserved : goal.loop-next-preserved
loop-next-preserved g c =
    let rises = turn_rises c.loop-next.ahead.items c.reserve.new.self.items c.push_parts.new.ahead.items c.in-Some.next (search (rules, c.in-Some.ensures.items, c.reserve.ensures.items)) c.push_parts.ensures.items in
    omega (arith, rises, c.loop-next.invariant, c.in-Some.ensures.capacity, c.reserve.ensures.capacity, c.push_parts.ensures.capacity, c.loop-next.ahead.ok.0, c.reserve.new.self.ok.0, c.reserve.ensures.len, c.in-Some.ensures.cases)
