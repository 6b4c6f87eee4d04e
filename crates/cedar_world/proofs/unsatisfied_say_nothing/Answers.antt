-- An unsatisfied policy passes none of the tests by which the rules read policies, and errs with no kind.
use Rattle.cedar_world.proofs.Unsatisfied.{unsatisfied_say_nothing as law}
use Rattle.cedar_world.proofs.unsatisfied_say_nothing.Goals as goal

pub returns : goal.returns
returns c = law
