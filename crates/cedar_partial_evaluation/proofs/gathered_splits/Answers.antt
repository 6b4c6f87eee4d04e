-- Operand by operand: values stay values until something is left of one, and are then trees that write them.
use Rattle.cedar_partial_evaluation.proofs.Alike.{gathered_splits as law}
use Rattle.cedar_partial_evaluation.proofs.gathered_splits.Goals as goal

pub returns : goal.returns
returns c = law
