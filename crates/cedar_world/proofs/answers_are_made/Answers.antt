-- Each set of ids holds those of the policies that pass its test, and the errors the one kind with which an id errs.
use Rattle.cedar_world.proofs.Ids.{answers_are_made as law}
use Rattle.cedar_world.proofs.answers_are_made.Goals as goal

pub returns : goal.returns
returns c = law
