-- What a response says once nothing more will be told: open policies aren't satisfied, and each counts as one that errs.
use Rattle.std.specs.Prelude.{◌≡◌, ℕ, List, ◌++◌, map}
use Rattle.std.specs.declared.alloc.Global.{Global}
use Rattle.std.specs.declared.rc.Rc.{Rc}
use Rattle.cedar_language.specs.Answering.{known_decision, in_must, ids_with}
use Rattle.cedar_language.specs.Tree.{Tree}
use Rattle.cedar_language.specs.Uid.{Text}
use Rattle.cedar_language.specs.Value.{NonValue}
use Rattle.cedar_entities.specs.declared.store.Entities.{Entities}
use Rattle.cedar_extensions.specs.Causes.{Cause, Residual, cause_of}
use Rattle.cedar_extensions.specs.Failures.{Failure, OfKind}
use Rattle.cedar_extensions.specs.Table.{Table}
use Rattle.cedar_evaluator.specs.Asking.{Inquiry}
use Rattle.cedar_policy_parts.specs.Decisions.{decision_of}
use Rattle.cedar_policy_set.specs.Entries.{Entries}
use Rattle.cedar_trees.specs.Bare.{bare}
use Rattle.cedar_trees.specs.declared.expr.Expr.{Expr}
use Rattle.cedar_evaluator.specs.Authorizing.{Responds}
use Rattle.cedar_evaluator.specs.Given.{Noted}
use Rattle.cedar_evaluator.specs.Holding.{error_seen, holding_in}
use Rattle.cedar_evaluator.specs.Responses.{Holding, judged_held}
use Rattle.cedar_evaluator.specs.declared.errors.AuthorizationError.{AuthorizationError}
use Rattle.cedar_evaluator.specs.declared.errors.AuthorizationError.TheVariants.{PolicyEvaluationError}
use Rattle.cedar_evaluator.specs.declared.partial_response.PartialResponse.{PartialResponse}
use Rattle.cedar_evaluator.specs.declared.response.Response.{Response}

-- ---- errors

-- a policy's id, and what was met
abbrev pub cause_seen : AuthorizationError → Text × Cause
cause_seen (PolicyEvaluationError id error) = (id, cause_of error)

-- an open policy has no value but what is left of its condition
abbrev pub without_value : Text × Tree → Text × Cause
without_value e = (e.0, Residual e.1)

abbrev pub left_of : Text × (Rc (Expr (Unit {0})) Global × Noted) → Text × Cause
left_of e = without_value (e.0, bare e.1.0.value)

-- of each open forbid, then of each open permit, then those that were told
abbrev pub all_causes : PartialResponse → List (Text × Cause)
all_causes r = map left_of r.residual_forbids ++ map left_of r.residual_permits ++ map cause_seen r.errors.items

abbrev pub has_no_value : Text × Tree → Text × Failure
has_no_value e = (e.0, OfKind NonValue)

abbrev pub all_errors : Holding → List (Text × Failure)
all_errors h = map has_no_value h.open_forbids ++ map has_no_value h.open_permits ++ h.errors

-- ---- responses

-- A satisfied forbid denies, and else a satisfied permit allows; the reasons are those that hold whatever the open policies come to.
pub record IsConcrete (h : Holding) (whole : Response) : Type 0 where
  pub decision : decision_of whole.decision ≡ known_decision (judged_held h)
  pub reasons : whole.diagnostics.reason ≡ ids_with (in_must (judged_held h)) (judged_held h)
  pub errors : map error_seen whole.diagnostics.errors.items ≡ all_errors h

-- so it is made of a response; each error is that of an open policy, with what is left of its condition, or one that was told
pub record IsConcreteOf (partial : PartialResponse) (whole : Response) : Type 0 where
  pub concrete : IsConcrete (holding_in partial) whole
  pub causes : map cause_seen whole.diagnostics.errors.items ≡ all_causes partial

-- of a response to the inquiry by the static policies and links of the set
pub record Answers (i : Inquiry) (store : Entities) (table : Table) (depth : ℕ) (es : Entries) (whole : Response) : Type 0 where
  pub partial : PartialResponse
  pub responds : Responds i store table depth es partial
  pub concrete : IsConcreteOf partial whole
