-- The residual means under the filling what its tree means, and once all is told its own answer shows that.
use Rattle.cedar_partial_evaluation.proofs.Early.{last_answers_are_exact as law}
use Rattle.cedar_partial_evaluation.proofs.last_answers_are_exact.Goals as goal

pub returns : goal.returns
returns c = law
