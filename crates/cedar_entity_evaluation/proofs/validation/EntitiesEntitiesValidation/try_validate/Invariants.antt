use Rattle.std.proofs.Common.{Result}
use Rattle.cedar_extensions.specs.Table.{as_table}
use Rattle.cedar_extensions.specs.declared.validation_errors.ExprValidationError.{ExprValidationError}
use Rattle.cedar_entities.specs.Store.{entities_in}
use Rattle.cedar_entity_evaluation.specs.Calls.{entities_calls}
use Rattle.cedar_entity_evaluation.specs.Validated.{ValidatesCalls}
use Rattle.cedar_entity_evaluation.proofs.validation.EntitiesEntitiesValidation.try_validate.Given as goal

-- what the calls that are left answer, all answer
abbrev pub invariant-loop-entity : goal.invariant-loop-entity
invariant-loop-entity g l = (r : Result Unit ExprValidationError) → ValidatesCalls (as_table g.F.ExtensionFunctionObject.answers l.extensions) (entities_calls l.entity-iterator) r → ValidatesCalls (as_table g.F.ExtensionFunctionObject.answers l.extensions) (entities_calls (entities_in l.self)) r
