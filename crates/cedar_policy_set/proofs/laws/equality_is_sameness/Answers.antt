-- Entries are compared by their nodes, from which they can be read back.
use Rattle.cedar_policy_set.specs.EntryNodes.{entries_decide}
use Rattle.cedar_policy_set.proofs.laws.equality_is_sameness.Goals as goal

pub returns : goal.returns
returns c = entries_decide
