use Rattle.cedar_typechecker.proofs.Acting.{action_test}
use Rattle.cedar_typechecker.proofs.leaves.is_action.Goals as goal

pub returns : goal.returns
returns c = action_test c.is_action.result c.args.name.now c.is_action.ensures
