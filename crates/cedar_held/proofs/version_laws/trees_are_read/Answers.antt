use Rattle.cedar_held.proofs.Reading as reading
use Rattle.cedar_held.proofs.version_laws.trees_are_read.Goals as goal

pub returns : goal.returns
returns c = reading.trees_are_read
