-- The parts of a known question are written in its body.
use Rattle.cedar_theorem.proofs.Known.{known_ask}
use Rattle.cedar_theorem.proofs.known_questions_ask.Goals as goal

pub returns : goal.returns
returns c = known_ask c.texts_are_one.ensures.bodies
