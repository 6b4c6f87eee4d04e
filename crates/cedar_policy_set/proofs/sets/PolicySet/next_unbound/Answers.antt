-- A number whose id is bound is passed over, and then those that are known to be bound.
use Rattle.std.proofs.Common.{◌-◌, ◌^◌, ap, sym, ◌∙◌, arith}
use Rattle.cedar_policy_set.specs.Entries.{is_bound}
use Rattle.cedar_policy_set.proofs.Counting.{binds_on, binds_up}
use Rattle.cedar_policy_set.proofs.sets.PolicySet.next_unbound.Goals as goal

pub loop-number-preserved : goal.loop-number-preserved
loop-number-preserved c = record {
  reached = omega arith;
  passed = binds_on c.args.self.now c.args.from c.loop-number.number c.skip_bound-number-in-loop-number.result c.loop-number.invariant.passed
      (ap (is_bound c.args.self.now) (sym c.in_ok-id.ensures) ∙ sym c.is_bound.ensures ∙ c.if-not-is_bound.false) c.skip_bound-number-in-loop-number.ensures.bound;
}

pub returns-then-not-is_bound : goal.returns-then-not-is_bound
returns-then-not-is_bound c = (
  record {
    reached = c.loop-number.invariant.reached;
    small = omega arith;
    free = ap (is_bound c.args.self.now) (sym c.in_ok-id.ensures) ∙ sym c.is_bound.ensures ∙ c.if-not-is_bound.true;
    passed = c.loop-number.invariant.passed;
  },
  c.in_ok-id.ensures,
)

pub returns : goal.returns
returns c = binds_up c.args.self.now c.args.from c.loop-number.number (2 ^ 64 - 1) c.loop-number.invariant.passed (let e = c.loop-number-test.false in omega arith)
