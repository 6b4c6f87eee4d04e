-- What goes on from here answers the whole.
use Rattle.std.proofs.Common.{[], map, Result}
use Rattle.cedar_policy_set.specs.Entries.{Entries}
use Rattle.cedar_policy_set.specs.Bounds.{policy_seen}
use Rattle.cedar_policy_set.specs.Refused.{AddsAll}
use Rattle.cedar_policy_set.specs.declared.errors.PolicySetError.{PolicySetError}
use Rattle.cedar_policy_set.proofs.sets.PolicySet.try_from_iter.Given as goal

abbrev pub invariant-loop-policy : goal.invariant-loop-policy
invariant-loop-policy l = (r : Result Entries PolicySetError) → AddsAll l.set (map policy_seen l.policy-iterator.rest.items) r → AddsAll [] (map policy_seen l.fn.policies.items) r
