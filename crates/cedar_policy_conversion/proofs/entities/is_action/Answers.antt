-- A uid's own test decides whether its type ends in `Action`.
use Rattle.cedar_policy_conversion.proofs.Acting.{decided}
use Rattle.cedar_policy_conversion.proofs.entities.is_action.Goals as goal

pub returns : goal.returns
returns c = decided c.is_action.result c.args.uid.now.type_name c.is_action.ensures
