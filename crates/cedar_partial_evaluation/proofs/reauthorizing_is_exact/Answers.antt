-- Once all is told no policy that is taken up again is open, and where none is open the rules are exact.
use Rattle.cedar_partial_evaluation.proofs.Reauthorizing.{reauthorizing_is_exact as law}
use Rattle.cedar_partial_evaluation.proofs.reauthorizing_is_exact.Goals as goal

pub returns : goal.returns
returns c = law
