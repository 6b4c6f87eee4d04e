-- Something is left of a construct only where something is left of a part of it, and of known leaves nothing is.
use Rattle.cedar_partial_evaluation.proofs.Leaves.{known_is_never_left as law}
use Rattle.cedar_partial_evaluation.proofs.known_is_never_left.Goals as goal

pub returns : goal.returns
returns c = law
