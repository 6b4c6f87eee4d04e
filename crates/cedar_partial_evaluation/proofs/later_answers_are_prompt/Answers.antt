-- What settles of a tree settles of its residual, and the residual's own answer is prompt.
use Rattle.cedar_partial_evaluation.proofs.Telling.{later_answers_are_prompt as law}
use Rattle.cedar_partial_evaluation.proofs.later_answers_are_prompt.Goals as goal

pub returns : goal.returns
returns c = law
