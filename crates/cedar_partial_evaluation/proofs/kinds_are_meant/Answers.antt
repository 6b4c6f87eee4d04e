-- Where everything is known nothing is open, so each rule for a kind is a case of the meaning.
use Rattle.cedar_partial_evaluation.proofs.Known.{kinds_are_meant as law}
use Rattle.cedar_partial_evaluation.proofs.kinds_are_meant.Goals as goal

pub returns : goal.returns
returns c = law
