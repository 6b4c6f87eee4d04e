-- By induction on the tree: what the own builder makes of a construct, a lawful builder builds as that construct.
use Rattle.cedar_substitution.proofs.Again.{again}
use Rattle.cedar_substitution.proofs.laws.substituted_is_built_alike.Goals as goal

pub returns : goal.returns
returns g c = again g.B.ExprBuilder.operations g.met.B.ExprBuilder.lawful
