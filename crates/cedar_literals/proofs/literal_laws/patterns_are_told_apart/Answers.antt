-- The first element is read back from the text, and so is each behind it.
use Rattle.cedar_literals.proofs.Told.{told_apart}
use Rattle.cedar_literals.proofs.literal_laws.patterns_are_told_apart.Goals as goal

pub returns : goal.returns
returns c = told_apart
