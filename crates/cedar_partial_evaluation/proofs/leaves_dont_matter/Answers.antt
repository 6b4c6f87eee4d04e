-- By the tree: the leaves that it mentions are the same, and operators look further only where something is left.
use Rattle.cedar_partial_evaluation.proofs.Leaves.{leaves_dont_matter as law}
use Rattle.cedar_partial_evaluation.proofs.leaves_dont_matter.Goals as goal

pub returns : goal.returns
returns c = law
