-- What was told stays told, and trees for values are evaluated to these again, operand by operand.
use Rattle.cedar_partial_evaluation.proofs.Telling.{contexts_stay as law}
use Rattle.cedar_partial_evaluation.proofs.contexts_stay.Goals as goal

pub returns : goal.returns
returns c = law
