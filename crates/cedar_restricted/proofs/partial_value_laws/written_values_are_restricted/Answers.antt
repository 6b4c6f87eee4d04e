-- Values are written by literals, sets, records and calls alone, and all of these may stand there.
use Rattle.std.proofs.Common.{}
use Rattle.cedar_restricted.proofs.ReadBack.{ground, restricted}
use Rattle.cedar_restricted.proofs.partial_value_laws.written_values_are_restricted.Goals as goal

pub returns-clause-written : goal.returns-clause-written
returns-clause-written c = ground

pub returns-clause-ground : goal.returns-clause-ground
returns-clause-ground c = restricted
