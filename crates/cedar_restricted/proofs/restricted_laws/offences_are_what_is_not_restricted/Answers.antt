-- By induction on the tree: a construct that may stand there offends just where one of its parts does.
use Rattle.std.proofs.Common.{}
use Rattle.cedar_restricted.proofs.Offending.{no_offence}
use Rattle.cedar_restricted.proofs.restricted_laws.offences_are_what_is_not_restricted.Goals as goal

pub returns : goal.returns
returns c = no_offence
