use Rattle.std.proofs.Common.{Result}
use Rattle.cedar_entities.specs.Attributes.{seen_entries}
use Rattle.cedar_extensions.specs.Table.{as_table}
use Rattle.cedar_extensions.specs.declared.validation_errors.ExprValidationError.{ExprValidationError}
use Rattle.cedar_entity_evaluation.specs.Calls.{calls_among}
use Rattle.cedar_entity_evaluation.specs.Validated.{ValidatesCalls}
use Rattle.cedar_entity_evaluation.proofs.validated_attributes.validate_all.Given as goal

-- what the calls that are left answer, all answer
abbrev pub invariant-loop-name : goal.invariant-loop-name
invariant-loop-name g l = (r : Result Unit ExprValidationError) → ValidatesCalls (as_table g.F.ExtensionFunctionObject.answers l.extensions) (calls_among (seen_entries l._name-iterator)) r → ValidatesCalls (as_table g.F.ExtensionFunctionObject.answers l.extensions) (calls_among (seen_entries l.fn.attributes)) r
