-- A value is what it is seen as, and a residual is no value.
use Rattle.cedar_operators.proofs.ByLookup.{part_shows, part_is_value}
use Rattle.cedar_operators.proofs.lookups.in_part.Goals as goal

pub returns-in-Value : goal.returns-in-Value
returns-in-Value c = λ v e. part_shows c.args.part.now v c.in-Value.value c.in-Value.is e

pub returns-in-Residual : goal.returns-in-Residual
returns-in-Residual c = λ v e. part_is_value c.args.part.now v c.in-Residual.residual c.in-Residual.is e
