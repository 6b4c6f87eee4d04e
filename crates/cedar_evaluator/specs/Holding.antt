-- What a response holds.
use Rattle.std.specs.Prelude.{Bool, true, false, map}
use Rattle.std.specs.Map.{keys_of}
use Rattle.cedar_language.specs.Uid.{Text}
use Rattle.cedar_extensions.specs.Failures.{Failure, failure_of}
use Rattle.cedar_requests.specs.Holding.{RequestParts, request_parts}
use Rattle.cedar_trees.specs.Bare.{bare}
use Rattle.cedar_evaluator.specs.Evaluations.{Annotations}
use Rattle.cedar_evaluator.specs.Given.{Noted}
use Rattle.cedar_evaluator.specs.Responses.{Annotated, Holding}
use Rattle.cedar_evaluator.specs.declared.errors.AuthorizationError.{AuthorizationError}
use Rattle.cedar_evaluator.specs.declared.errors.AuthorizationError.TheVariants.{PolicyEvaluationError}
use Rattle.cedar_evaluator.specs.declared.partial_response.ErrorState.{ErrorState}
use Rattle.cedar_evaluator.specs.declared.partial_response.ErrorState.TheVariants.{NoError, Error}
use Rattle.cedar_evaluator.specs.declared.partial_response.PartialResponse.{PartialResponse}

-- what was asked
abbrev pub request_asked : PartialResponse → RequestParts
request_asked r = request_parts r.request.value

-- whether a policy that isn't satisfied erred
abbrev pub has_erred : ErrorState → Bool
has_erred NoError = false
has_erred Error = true

-- a policy's id, and why it erred
abbrev pub error_seen : AuthorizationError → Text × Failure
error_seen (PolicyEvaluationError id error) = (id, failure_of error)

-- a policy's id and annotations
abbrev pub noted : Text × Noted → Text × Annotations
noted e = (e.0, e.1.value)

-- of one that is kept with more
abbrev pub noted_behind : {X : Type 0} → Text × (X × Noted) → Text × Annotations
noted_behind e = (e.0, e.1.1.value)

-- the annotations of the policies of each group, in their order
abbrev pub annotated_in : PartialResponse → Annotated
annotated_in r = record {
  satisfied_permits = map noted r.satisfied_permits;
  false_permits = map noted_behind r.false_permits;
  open_permits = map noted_behind r.residual_permits;
  satisfied_forbids = map noted r.satisfied_forbids;
  false_forbids = map noted_behind r.false_forbids;
  open_forbids = map noted_behind r.residual_forbids;
}

-- the policies of each group with their annotations, and the errors, in their order
abbrev pub holding_in : PartialResponse → Holding
holding_in r = record {
  satisfied_permits = keys_of r.satisfied_permits;
  false_permits = map (λ e. (e.0, has_erred e.1.0)) r.false_permits;
  open_permits = map (λ e. (e.0, bare e.1.0.value)) r.residual_permits;
  satisfied_forbids = keys_of r.satisfied_forbids;
  false_forbids = map (λ e. (e.0, has_erred e.1.0)) r.false_forbids;
  open_forbids = map (λ e. (e.0, bare e.1.0.value)) r.residual_forbids;
  errors = map error_seen r.errors.items;
  annotated = annotated_in r;
}
