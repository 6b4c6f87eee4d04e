-- The uid is the same in both forms.
use Rattle.std.proofs.Common.{◌∙◌, ap}
use Rattle.cedar_validator_schema.specs.Views.{schema_view}
use Rattle.cedar_validator.proofs.schema_types.SchemaTypes.may_name.Goals as goal

pub returns : goal.returns
returns c = λ s. c.may_name.ensures s ∙ ap (schema_view s c.args.self.now.schema).may_name c.in_ok-named.ensures
