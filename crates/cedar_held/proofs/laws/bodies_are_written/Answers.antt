-- Naming the unknowns of a body names those of each of its fields, and leaves which fields stand there.
use Rattle.cedar_held.proofs.Naming.{bodies_named}
use Rattle.cedar_held.proofs.laws.bodies_are_written.Goals as goal

pub returns : goal.returns
returns c = bodies_named
