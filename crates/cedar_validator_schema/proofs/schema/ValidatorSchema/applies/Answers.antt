-- What is found of the action tells it.
use Rattle.std.proofs.Common.{ap, ◌∙◌}
use Rattle.cedar_validator_schema.specs.Applying.{applies_in}
use Rattle.cedar_validator_schema.proofs.schema.ValidatorSchema.applies.Goals as goal

pub returns-in-Some : goal.returns-in-Some
returns-in-Some c = λ s. c.applies_to.ensures ∙ ap (λ o. applies_in o c.args.principal.now c.args.resource.now) c.in-Some.ensures
