-- Construct by construct: of parts that are settled to what they mean, what is settled is what they mean together.
use Rattle.cedar_partial_evaluation.proofs.Known.{meaning_is_settled as law}
use Rattle.cedar_partial_evaluation.proofs.meaning_is_settled.Goals as goal

pub returns : goal.returns
returns c = law
