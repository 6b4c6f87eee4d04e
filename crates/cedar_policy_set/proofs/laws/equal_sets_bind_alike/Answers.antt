-- The law on sets of entries that decides whether they bind alike.
use Rattle.cedar_policy_set.specs.SameSets.{sets_decide}
use Rattle.cedar_policy_set.proofs.laws.equal_sets_bind_alike.Goals as goal

pub returns : goal.returns
returns c = sets_decide
