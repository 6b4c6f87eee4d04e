-- Whatever the functions are.
use Rattle.std.proofs.Common.{None}
use Rattle.cedar_validator.specs.SchemaTypes.{types_view}
use Rattle.cedar_validator.proofs.Viewed.{for_functions}
use Rattle.cedar_validator.proofs.environments.SchemaEnvRequestEnv.action_reaches.Goals as goal

pub returns : goal.returns
returns g c = for_functions c.action_reaches.result (λ s. (types_view s c.args.self.now.types.now).action_reaches c.args.action.now c.args.ancestor.now) (λ n. None) c.action_reaches.ensures
