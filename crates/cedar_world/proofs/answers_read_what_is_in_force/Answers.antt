-- Of the same entities and policies in force come the same facts and standings, and an answer is asked nothing else.
use Rattle.cedar_world.proofs.Alike.{answers_read_what_is_in_force as law}
use Rattle.cedar_world.proofs.answers_read_what_is_in_force.Goals as goal

pub returns : goal.returns
returns c = law
