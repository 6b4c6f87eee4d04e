-- No construct of a tree brings in a call but the constructor's, and no operator but a call looks up a function.
use Rattle.cedar_world.proofs.Lookups.{found_answers as law}
use Rattle.cedar_world.proofs.telling.found_answers.Goals as goal

pub returns : goal.returns
returns c = law
