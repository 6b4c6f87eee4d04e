-- The walk over data reads what the walk over all trees reads.
use Rattle.cedar_world.proofs.Named as named
use Rattle.cedar_world.proofs.names_are_read.Goals as goal

pub returns : goal.returns
returns c = named.names_are_read c.unknowns_are_read.ensures
