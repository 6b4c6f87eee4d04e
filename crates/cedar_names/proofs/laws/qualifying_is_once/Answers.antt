-- In a namespace that isn't empty a name has two identifiers or more, and such a name is left as it is.
use Rattle.cedar_names.proofs.Qualifying.{kept, once}
use Rattle.cedar_names.proofs.laws.qualifying_is_once.Goals as goal

pub returns-clause-kept : goal.returns-clause-kept
returns-clause-kept c = kept

pub returns-clause-once : goal.returns-clause-once
returns-clause-once c = once
