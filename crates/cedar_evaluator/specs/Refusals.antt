-- What an error is among those of telling values; want of memory stays want of memory.
use Rattle.std.specs.Prelude.{alloc_error}
use Rattle.cedar_extensions.specs.declared.evaluation_error.EvaluationError.{EvaluationError}
use Rattle.cedar_extensions.specs.declared.evaluation_error.EvaluationError.TheVariants as evaluation
use Rattle.cedar_policy_set.specs.declared.errors.PolicySetError.{PolicySetError}
use Rattle.cedar_policy_set.specs.declared.errors.PolicySetError.TheVariants as adding
use Rattle.cedar_evaluator.specs.declared.errors.ConcretizationError.{ConcretizationError}
use Rattle.cedar_evaluator.specs.declared.errors.ConcretizationError.TheVariants as telling
use Rattle.cedar_evaluator.specs.declared.errors.ReauthorizationError.{ReauthorizationError}
use Rattle.cedar_evaluator.specs.declared.errors.ReauthorizationError.TheVariants as answering

abbrev pub by_evaluation : EvaluationError → ConcretizationError
by_evaluation evaluation.Memory = telling.Memory alloc_error
by_evaluation e = telling.ValueEval e

abbrev pub by_policy_set : PolicySetError → ReauthorizationError
by_policy_set (adding.Occupied id) = answering.PolicySetError (adding.Occupied id)
by_policy_set (adding.Memory e) = answering.Memory alloc_error

abbrev pub by_concretization : ConcretizationError → ReauthorizationError
by_concretization (telling.Memory e) = answering.Memory alloc_error
by_concretization e = answering.ConcretizationError e
