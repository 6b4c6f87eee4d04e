-- What the index covers of the map it covers of what contracts see of it.
use Rattle.std.proofs.Common.{subst}
use Rattle.cedar_policy_set.specs.Scopes.{Covers}
use Rattle.cedar_policy_set.proofs.sets.PolicySet.scopes.Goals as goal

pub returns : goal.returns
returns c = subst (λ es. Covers es c.self.inside.scopes) c.self.view_is c.self.invariant.covers
