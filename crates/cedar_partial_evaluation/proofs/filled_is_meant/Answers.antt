-- Under a filling the leaves are settled to what the known question has for them, and so is the tree.
use Rattle.cedar_partial_evaluation.proofs.Filling.{filled_is_meant as law}
use Rattle.cedar_partial_evaluation.proofs.filled_is_meant.Goals as goal

pub returns : goal.returns
returns c = law
