-- What counts as bound is bound.
use Rattle.std.proofs.Common.{subst}
use Rattle.cedar_policy_set.specs.Numbers.{BindsNumbers}
use Rattle.cedar_policy_set.proofs.sets.PolicySet.skip_bound.Goals as goal

pub returns-clause-bound : goal.returns-clause-bound
returns-clause-bound c = subst (λ es. BindsNumbers es c.args.from c.next.result) c.self.view_is (λ k low high. c.self.invariant.counts k (c.next.ensures.passed k low high))
