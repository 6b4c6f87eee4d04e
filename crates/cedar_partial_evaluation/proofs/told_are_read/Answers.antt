-- A told name is held as its value where the type fits, and as a TypeError where it doesn't.
use Rattle.cedar_partial_evaluation.proofs.Telling.{told_are_read as law}
use Rattle.cedar_partial_evaluation.proofs.told_are_read.Goals as goal

pub returns : goal.returns
returns c = law
