-- By induction on the tree: literals, sets and records of what is read mean just that.
use Rattle.std.proofs.Common.{}
use Rattle.cedar_restricted.proofs.ReadBack.{meant}
use Rattle.cedar_restricted.proofs.partial_value_laws.what_is_read_is_meant.Goals as goal

pub returns : goal.returns
returns c = meant
