-- By the tree: none of its leaves is an unknown, so its meaning asks for no name.
use Rattle.cedar_partial_evaluation.proofs.Leaves.{names_dont_matter as law}
use Rattle.cedar_partial_evaluation.proofs.names_dont_matter.Goals as goal

pub returns : goal.returns
returns c = law
