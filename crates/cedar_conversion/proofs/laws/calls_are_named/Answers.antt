-- The trees that texts write are fine, and a fine tree calls no `unknown` that the table of names lacks.
use Rattle.cedar_conversion.proofs.Written.{calls_are_named}
use Rattle.cedar_conversion.proofs.laws.calls_are_named.Goals as goal

pub returns : goal.returns
returns c = calls_are_named
