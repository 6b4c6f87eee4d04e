-- What is bound in either set is taken. More numbers than ids are bound, so one is free.
use Rattle.std.proofs.Common.{refl, ap, sym, ◌∙◌, arith, ◌^◌, ◌-◌}
use Rattle.cedar_policy_set.specs.Entries.{is_bound}
use Rattle.cedar_store.proofs.Numbers.{room_is_enough, free_on, taken_on, taken_up}
use Rattle.cedar_store.proofs.renaming.next_free.Goals as goal

pub loop-number-preserved : goal.loop-number-preserved
loop-number-preserved c =
    let found = rw c.in-Some.is at c.in_ok-number.ensures in
    record {
      reached = let on = found.0.reached in omega arith;
      passed = taken_on c.args.mine.now c.args.theirs.now c.args.from c.loop-number.next c.in-Some.number c.loop-number.invariant.passed found.0.passed
          (ap (is_bound c.args.theirs.now) (sym found.1) ∙ sym c.is_bound.ensures ∙ c.if-not-is_bound.false);
    }

pub loop-number-smaller : goal.loop-number-smaller
loop-number-smaller c =
    let found = rw c.in-Some.is at c.in_ok-number.ensures in
    let on = found.0.reached in
    let small = found.0.small in
    omega arith

pub overflow_add-next : goal.overflow_add-next
overflow_add-next c =
    let found = rw c.in-Some.is at c.in_ok-number.ensures in
    let small = found.0.small in
    omega arith

pub returns-then-not-is_bound-clause-free : goal.returns-then-not-is_bound-clause-free
returns-then-not-is_bound-clause-free c =
    let found = rw c.in-Some.is at c.in_ok-number.ensures in
    free_on c.args.mine.now c.args.theirs.now c.args.from c.loop-number.next c.in-Some.number c.loop-number.invariant.reached c.loop-number.invariant.passed found.0
    (ap (is_bound c.args.theirs.now) (sym found.1) ∙ sym c.is_bound.ensures ∙ c.if-not-is_bound.true)

pub returns-then-not-is_bound-clause-id : goal.returns-then-not-is_bound-clause-id
returns-then-not-is_bound-clause-id c = let found = rw c.in-Some.is at c.in_ok-number.ensures in found.1

pub returns-then-not-is_bound-clause-below : goal.returns-then-not-is_bound-clause-below
returns-then-not-is_bound-clause-below c = let found = rw c.in-Some.is at c.in_ok-number.ensures in found.0.small

pub unreachable-requires : goal.unreachable-requires
unreachable-requires c =
    let none = rw c.in_default.is at c.in_ok-number.ensures in
    room_is_enough _ _ _ c.requires (2 ^ 64 - 1) refl
    (taken_up c.args.mine.now c.args.theirs.now c.args.from c.loop-number.next (2 ^ 64 - 1) c.loop-number.invariant.passed none)
