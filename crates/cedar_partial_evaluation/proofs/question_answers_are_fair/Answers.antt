-- Under a filling each tree is settled, and what an answer left settles wherever its tree does.
use Rattle.cedar_partial_evaluation.proofs.Filling.{answers_are_fair as law}
use Rattle.cedar_partial_evaluation.proofs.question_answers_are_fair.Goals as goal

pub returns : goal.returns
returns c = law
