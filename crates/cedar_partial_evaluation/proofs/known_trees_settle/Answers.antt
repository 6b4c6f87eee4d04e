-- Each leaf that the tree mentions is closed, and a construct of closed parts is closed.
use Rattle.cedar_partial_evaluation.proofs.Leaves.{known_trees_settle as law}
use Rattle.cedar_partial_evaluation.proofs.known_trees_settle.Goals as goal

pub returns : goal.returns
returns c = law
