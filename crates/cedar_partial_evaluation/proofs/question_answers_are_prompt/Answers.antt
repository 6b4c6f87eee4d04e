-- What is settled of the question's leaves is held for them, and what is refused errs under each filling.
use Rattle.cedar_partial_evaluation.proofs.Filling.{answers_prompt as law}
use Rattle.cedar_partial_evaluation.proofs.question_answers_are_prompt.Goals as goal

pub returns : goal.returns
returns c = law
