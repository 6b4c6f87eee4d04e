-- Each policy stands early as its condition settles, wherever it does, and the rules are sharp.
use Rattle.cedar_partial_evaluation.proofs.Early.{early_answers_are_prompt as law}
use Rattle.cedar_partial_evaluation.proofs.early_answers_are_prompt.Goals as goal

pub returns : goal.returns
returns c = law
