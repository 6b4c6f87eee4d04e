-- No identifier holds a colon, so the first separator ends the first identifier; and so on behind it.
use Rattle.cedar_names.proofs.Splitting.{names_apart}
use Rattle.cedar_names.proofs.laws.names_are_told_apart.Goals as goal

pub returns : goal.returns
returns c = names_apart
