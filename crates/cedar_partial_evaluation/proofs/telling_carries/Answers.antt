-- A name keeps what it was told, and an entry of the context that settles is among those that its evaluation left.
use Rattle.cedar_partial_evaluation.proofs.Question.{telling_carries as law}
use Rattle.cedar_partial_evaluation.proofs.telling_carries.Goals as goal

pub returns : goal.returns
returns c = law
