-- No id stands twice among none.
use Rattle.cedar_policy_set.proofs.Few.{kept_nothing}
use Rattle.cedar_policy_set.proofs.policy_map.PolicyMap.new.Goals as goal

pub invariant_of-result : goal.invariant_of-result
invariant_of-result g c = kept_nothing c.new.result.items c.new.ensures.items
