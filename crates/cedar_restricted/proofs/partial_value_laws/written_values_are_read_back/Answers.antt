-- By induction on the value; a set is the same one again since sets are finite, and no call is read.
use Rattle.std.proofs.Common.{}
use Rattle.cedar_restricted.proofs.ReadBack.{back, not_back}
use Rattle.cedar_restricted.proofs.partial_value_laws.written_values_are_read_back.Goals as goal

pub returns-clause-read : goal.returns-clause-read
returns-clause-read c = back c.sets_are_finite.ensures

pub returns-clause-extensions : goal.returns-clause-extensions
returns-clause-extensions c = not_back
