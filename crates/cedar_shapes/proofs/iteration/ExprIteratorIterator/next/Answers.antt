-- A turn puts the parts in the place of what is taken: it goes one position on, and needs no more room.
use Rattle.std.proofs.Common.{arith, rules}
use Rattle.cedar_shapes.proofs.Walking.{turn_is, turn_room, turn_need}
use Rattle.cedar_shapes.proofs.iteration.ExprIteratorIterator.next.Goals as goal

pub push_parts-requires : goal.push_parts-requires
push_parts-requires g c =
    let room = turn_room c.args.self.now.ahead.items c.pop.new.self.items c.pop.new.self.items c.in_ok-next.next c.in_ok-next.ensures.items in
    record { room = omega (arith, room, c.pop.new.self.ok.0, c.args.self.now.fits, c.pop.ensures.capacity) }

pub invariant_of-self-2 : goal.invariant_of-self-2
invariant_of-self-2 g c =
    let falls = turn_need c.args.self.now.ahead.items c.pop.new.self.items c.push_parts.new.ahead.items c.in_ok-next.next c.in_ok-next.ensures.items c.push_parts.ensures.items in
    record { fits = omega (arith, falls, c.args.self.now.fits, c.pop.ensures.capacity, c.push_parts.ensures.capacity) }

pub returns-clause-steps : goal.returns-clause-steps
returns-clause-steps g c =
    turn_is c.args.self.now.ahead.items c.pop.new.self.items c.push_parts.new.ahead.items c.in_ok-next.next c.in_ok-next.ensures.items c.push_parts.ensures.items

pub returns-clause-goes : goal.returns-clause-goes
returns-clause-goes g c =
    let turn = turn_is c.args.self.now.ahead.items c.pop.new.self.items c.push_parts.new.ahead.items c.in_ok-next.next c.in_ok-next.ensures.items c.push_parts.ensures.items in
    search (rules, turn)
