-- What is told of a question is of its unknowns, of their kinds, and leaves its context without an error.
use Rattle.cedar_world.proofs.ToldAll.{told_all_is_a_filling as law}
use Rattle.cedar_world.proofs.told_all_is_a_filling.Goals as goal

pub returns : goal.returns
returns c = law
