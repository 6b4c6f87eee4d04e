-- The residual means what its tree means, and its own answer means what the residual does.
use Rattle.cedar_partial_evaluation.proofs.Telling.{later_answers_are_fair as law}
use Rattle.cedar_partial_evaluation.proofs.later_answers_are_fair.Goals as goal

pub returns : goal.returns
returns c = law
