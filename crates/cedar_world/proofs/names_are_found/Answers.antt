-- The names and the look-up are made of one table: without `unknown`, which bodies alone have where it is built in.
use Rattle.cedar_world.proofs.Named as named
use Rattle.cedar_world.proofs.names_are_found.Goals as goal

pub returns : goal.returns
returns c functions = named.names_are_found functions
