-- What is listed is listed whatever is covered (Growing).
use Rattle.cedar_policy_set.proofs.Growing.{counted}
use Rattle.cedar_policy_set.proofs.scope_index.index.ScopeIndex.skip.Goals as goal

pub returns-clause-kept : goal.returns-clause-kept
returns-clause-kept c = counted c.args.self.now _
