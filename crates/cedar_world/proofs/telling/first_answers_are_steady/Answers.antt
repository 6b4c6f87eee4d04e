-- Each answer of the rules holds under the fillings, and goes against nothing that is decided later.
use Rattle.cedar_world.proofs.Steady.{first_answers_are_steady as law}
use Rattle.cedar_world.proofs.telling.first_answers_are_steady.Goals as goal

pub returns : goal.returns
returns c = law
