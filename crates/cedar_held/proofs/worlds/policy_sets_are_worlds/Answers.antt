-- An entry at an id is a policy of the world, and an edit of the one is that of the other.
use Rattle.cedar_held.proofs.PolicyWorlds.{finds_as_worlds, binds_as_worlds, removes_as_worlds}
use Rattle.cedar_held.proofs.worlds.policy_sets_are_worlds.Goals as goal

pub returns-clause-finds : goal.returns-clause-finds
returns-clause-finds c = finds_as_worlds

pub returns-clause-binds : goal.returns-clause-binds
returns-clause-binds c = binds_as_worlds

pub returns-clause-removes : goal.returns-clause-removes
returns-clause-removes c = removes_as_worlds
