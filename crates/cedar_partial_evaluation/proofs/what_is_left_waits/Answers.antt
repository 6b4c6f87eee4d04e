-- By the tree: what is left of it has the same leaves where evaluation looks, and is left again.
use Rattle.cedar_partial_evaluation.proofs.Waiting.{what_is_left_waits as law}
use Rattle.cedar_partial_evaluation.proofs.what_is_left_waits.Goals as goal

pub returns : goal.returns
returns c = law
