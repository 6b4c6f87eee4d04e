-- A residual means without slots what its tree means with them, and its own answer is fair.
use Rattle.cedar_partial_evaluation.proofs.UnboundSeam.{unbound_answers_are_fair as law}
use Rattle.cedar_partial_evaluation.proofs.unbound_answers_are_fair.Goals as goal

pub returns : goal.returns
returns c = law
