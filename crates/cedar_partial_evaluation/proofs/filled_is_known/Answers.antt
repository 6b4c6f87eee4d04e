-- Without unknowns a condition means the same, whatever stands for names.
use Rattle.cedar_partial_evaluation.proofs.Early.{filled_is_known as law}
use Rattle.cedar_partial_evaluation.proofs.filled_is_known.Goals as goal

pub returns : goal.returns
returns c = law
