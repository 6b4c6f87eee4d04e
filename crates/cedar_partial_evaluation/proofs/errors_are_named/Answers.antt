-- What settles to an error was answered so at first, or what was left of it without slots is answered so later.
use Rattle.cedar_partial_evaluation.proofs.Reauthorizing.{errors_are_named as law}
use Rattle.cedar_partial_evaluation.proofs.errors_are_named.Goals as goal

pub returns : goal.returns
returns c = law
