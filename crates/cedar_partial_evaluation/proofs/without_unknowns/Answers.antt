-- By the tree: no unknown stands in it that a value would be asked for.
use Rattle.cedar_partial_evaluation.proofs.Leaves.{without_unknowns as law}
use Rattle.cedar_partial_evaluation.proofs.without_unknowns.Goals as goal

pub returns : goal.returns
returns c = law
