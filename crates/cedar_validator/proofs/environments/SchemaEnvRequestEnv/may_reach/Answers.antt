-- Whatever the functions are.
use Rattle.std.proofs.Common.{None}
use Rattle.cedar_validator.specs.SchemaTypes.{types_view}
use Rattle.cedar_validator.proofs.Viewed.{for_functions}
use Rattle.cedar_validator.proofs.environments.SchemaEnvRequestEnv.may_reach.Goals as goal

pub returns : goal.returns
returns g c = for_functions c.may_reach.result (λ s. (types_view s c.args.self.now.types.now).may_reach c.args.descendant.now c.args.ancestor.now) (λ n. None) c.may_reach.ensures
