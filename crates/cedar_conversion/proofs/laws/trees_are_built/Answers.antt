-- The trees that texts write are fine, and of a fine tree the own builder makes that tree again.
use Rattle.cedar_conversion.proofs.Written.{trees_are_built}
use Rattle.cedar_conversion.proofs.laws.trees_are_built.Goals as goal

pub returns : goal.returns
returns c = trees_are_built
