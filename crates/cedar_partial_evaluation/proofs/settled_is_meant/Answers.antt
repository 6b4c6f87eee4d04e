-- A prompt answer has what is settled, and a fair one means it under the filling.
use Rattle.cedar_partial_evaluation.proofs.Telling.{settled_is_meant as law}
use Rattle.cedar_partial_evaluation.proofs.settled_is_meant.Goals as goal

pub returns : goal.returns
returns c = law
