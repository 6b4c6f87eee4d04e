-- Given leaves are answered as in the known question, and those that the tree doesn't mention don't matter.
use Rattle.cedar_partial_evaluation.proofs.Leaves.{mentioned_is_meant as law}
use Rattle.cedar_partial_evaluation.proofs.mentioned_is_meant.Goals as goal

pub returns : goal.returns
returns c = law
