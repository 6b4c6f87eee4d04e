-- By the law of the world, with the question that the JSON says.
use Rattle.cedar_calls.proofs.Questions.{questions_are_answered}
use Rattle.cedar_calls.proofs.json_questions_are_answered.Goals as goal

pub returns : goal.returns
returns c = questions_are_answered c.known_questions_are_answered.ensures
