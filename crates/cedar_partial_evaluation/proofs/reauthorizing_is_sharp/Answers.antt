-- Taken up again a policy stands as its condition settles, wherever that settles, and the rules are sharp.
use Rattle.cedar_partial_evaluation.proofs.Reauthorizing.{reauthorizing_is_sharp as law}
use Rattle.cedar_partial_evaluation.proofs.reauthorizing_is_sharp.Goals as goal

pub returns : goal.returns
returns c = law
