-- The context of the request's action.
use Rattle.std.proofs.Common.{◌≡◌, ◌∙◌, ap, None, rules}
use Rattle.cedar_validator.specs.SchemaTypes.{types_view}
use Rattle.cedar_validator.proofs.environments.SchemaEnvRequestEnv.context.Goals as goal

pub returns : goal.returns
returns g c =
    let is : c.deref.result.now ≡ c.args.self.now.request.now.action.value = search rules in
    c.context.ensures (λ n. None) ∙ ap (types_view (λ n. None) c.args.self.now.types.now).context is
