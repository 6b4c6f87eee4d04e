-- A uid is its type and its id, and both are compared exactly.
use Rattle.cedar_literals.proofs.Sameness.{uids_same}
use Rattle.cedar_literals.proofs.uid_laws.equality_is_sameness.Goals as goal

pub returns : goal.returns
returns c = uids_same
