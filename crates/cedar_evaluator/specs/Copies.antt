-- What a copy of a response tells.
use Rattle.std.specs.Prelude.{◌≡◌, map}
use Rattle.cedar_extensions.specs.declared.evaluation_error.EvaluationError.{EvaluationError}
use Rattle.cedar_evaluator.specs.Concrete.{cause_seen}
use Rattle.cedar_evaluator.specs.declared.errors.AuthorizationError.{AuthorizationError}
use Rattle.cedar_evaluator.specs.declared.errors.AuthorizationError.TheVariants.{PolicyEvaluationError}
use Rattle.cedar_evaluator.specs.declared.response.Diagnostics.{Diagnostics}

-- why the policy errs
abbrev pub error_in : AuthorizationError → EvaluationError
error_in (PolicyEvaluationError id error) = error

-- a copy tells the same reasons, and the same errors of the same policies
pub record TellsSame (told copy : Diagnostics) : Type 0 where
  pub reason : copy.reason ≡ told.reason
  pub errors : map cause_seen copy.errors.items ≡ map cause_seen told.errors.items
