use Rattle.cedar_trees.specs.Bare.{bare}
use Rattle.cedar_typechecker.proofs.Among.{tree_test}
use Rattle.cedar_typechecker.proofs.capabilities.same_expr.Goals as goal

pub returns : goal.returns
returns c = tree_test c.eq_shape.result (bare c.args.expr.now) (bare c.args.other.now) c.eq_shape.ensures
