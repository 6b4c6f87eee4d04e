-- A step has what is known of the question, and that is the policies' conditions judged one by one.
use Rattle.cedar_world.proofs.KnownQuestions.{known_questions_are_answered as law}
use Rattle.cedar_world.proofs.known_questions_are_answered.Goals as goal

pub returns : goal.returns
returns c = law c.texts_are_one.ensures.bodies
