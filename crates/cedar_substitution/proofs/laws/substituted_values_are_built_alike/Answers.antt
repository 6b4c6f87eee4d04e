-- A value is written by one tree, so both calls build the same.
use Rattle.cedar_substitution.proofs.Written.{values_alike}
use Rattle.cedar_substitution.proofs.laws.substituted_values_are_built_alike.Goals as goal

pub returns : goal.returns
returns g c = values_alike g.B.ExprBuilder.operations g.B.ExprBuilder.meaning g.B.ExprBuilder.refusal g.met.B.ExprBuilder.lawful
