-- What settles of a tree settles of its residual without slots, and the residual's own answer is prompt.
use Rattle.cedar_partial_evaluation.proofs.UnboundSeam.{unbound_answers_are_prompt as law}
use Rattle.cedar_partial_evaluation.proofs.unbound_answers_are_prompt.Goals as goal

pub returns : goal.returns
returns c = law
