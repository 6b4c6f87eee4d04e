-- Whatever the functions are.
use Rattle.std.proofs.Common.{None}
use Rattle.cedar_validator.specs.SchemaTypes.{types_view}
use Rattle.cedar_validator.proofs.Viewed.{for_functions}
use Rattle.cedar_validator.proofs.environments.SchemaEnvRequestEnv.may_name.Goals as goal

pub returns : goal.returns
returns g c = for_functions c.may_name.result (λ s. (types_view s c.args.self.now.types.now).may_name c.args.uid.now) (λ n. None) c.may_name.ensures
