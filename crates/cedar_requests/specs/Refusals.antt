-- What an error of an evaluation is among those of a context's making.
use Rattle.std.specs.Prelude.{alloc_error}
use Rattle.cedar_extensions.specs.declared.evaluation_error.EvaluationError.{EvaluationError}
use Rattle.cedar_extensions.specs.declared.evaluation_error.EvaluationError.TheVariants as evaluation
use Rattle.cedar_requests.specs.declared.errors.ContextCreationError.{ContextCreationError}
use Rattle.cedar_requests.specs.declared.errors.ContextCreationError.TheVariants.{Evaluation, Memory}

abbrev pub by_evaluation : EvaluationError → ContextCreationError
by_evaluation evaluation.Memory = Memory alloc_error
by_evaluation e = Evaluation e
