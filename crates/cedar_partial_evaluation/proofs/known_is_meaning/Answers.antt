-- Construct by construct: of parts that are answered as they mean, the answer is what they mean together.
use Rattle.cedar_partial_evaluation.proofs.Known.{known_is_meaning as law}
use Rattle.cedar_partial_evaluation.proofs.known_is_meaning.Goals as goal

pub returns : goal.returns
returns c = law
