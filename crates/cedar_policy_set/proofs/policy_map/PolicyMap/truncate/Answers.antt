-- No id stands twice among those before the position.
use Rattle.std.proofs.Common.{None, sym, subst}
use Rattle.std.specs.Map.{keys_of}
use Rattle.cedar_policy_set.specs.Places.{AreKept}
use Rattle.cedar_policy_set.proofs.Few.{kept_first}
use Rattle.cedar_policy_set.proofs.policy_map.PolicyMap.truncate.Goals as goal

pub invariant_of-self : goal.invariant_of-self
invariant_of-self g c = subst (λ es. AreKept None (keys_of es)) (sym c.truncate.ensures.items) (kept_first c.self.inside.entries.items c.args.len c.self.invariant.distinct)
