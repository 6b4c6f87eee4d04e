-- What a response to an inquiry says of the policies of a set.
use Rattle.std.specs.Prelude.{◌≡◌, ℕ, Bool, true, false, List}
use Rattle.std.specs.List.{IsDistinct}
use Rattle.std.specs.Map.{keys_of}
use Rattle.cedar_language.specs.Order.{same_text}
use Rattle.cedar_entities.specs.declared.store.Entities.{Entities}
use Rattle.cedar_extensions.specs.Answering.{FunctionAnswers}
use Rattle.cedar_extensions.specs.Table.{Table, as_table}
use Rattle.cedar_policy_set.specs.Entries.{Entries, policies_of}
use Rattle.cedar_requests.specs.Holding.{RequestParts}
use Rattle.cedar_evaluator.specs.Asking.{Inquiry, IsEvaluatorOf}
use Rattle.cedar_interpreter.specs.declared.evaluator.Evaluator.{Evaluator}
use Rattle.cedar_evaluator.specs.Evaluations.{Kept, AreKept}
use Rattle.cedar_evaluator.specs.Holding.{request_asked, holding_in}
use Rattle.cedar_evaluator.specs.Residuals.{residuals_with, is_any}
use Rattle.cedar_evaluator.specs.Responses.{holding_of, without_false}
use Rattle.cedar_evaluator.specs.declared.authorizer.Authorizer.{Authorizer}
use Rattle.cedar_evaluator.specs.declared.partial_response.PartialResponse.{PartialResponse}

-- the functions that conditions may call
abbrev pub table_of : {F : Type 0} → (F → FunctionAnswers) → Authorizer F → Table
table_of answers authorizer = as_table answers authorizer.extensions.now

-- no evaluation nests deeper
abbrev pub limit_of : {F : Type 0} → Authorizer F → ℕ
limit_of authorizer = authorizer.depth

-- Of each static policy and link of the set, in its order, what was found of it is kept, and nothing else: of each group its policies,
-- each with its own annotations, and the errors; no id stands in two groups.
pub record Responds (i : Inquiry) (store : Entities) (table : Table) (depth : ℕ) (es : Entries) (response : PartialResponse) : Type 0 where
  pub kept : List Kept
  pub each : AreKept i store table depth (policies_of es) kept
  pub holds : holding_in response ≡ holding_of kept
  pub asked : request_asked response ≡ i.request
  pub apart : IsDistinct same_text (keys_of (residuals_with is_any response))

-- The same, but no policy that isn't satisfied stands in a group: of one that errs the error alone is kept.
pub record RespondsWithoutFalse (i : Inquiry) (store : Entities) (table : Table) (depth : ℕ) (es : Entries) (response : PartialResponse) : Type 0 where
  pub kept : List Kept
  pub each : AreKept i store table depth (policies_of es) kept
  pub holds : holding_in response ≡ without_false (holding_of kept)
  pub asked : request_asked response ≡ i.request
  pub apart : IsDistinct same_text (keys_of (residuals_with is_any response))

-- with the policies that aren't satisfied, or without them
abbrev pub RespondsWith : Bool → Inquiry → Entities → Table → ℕ → Entries → PartialResponse → Type 0
RespondsWith true i store table depth es response = Responds i store table depth es response
RespondsWith false i store table depth es response = RespondsWithoutFalse i store table depth es response

-- by an evaluator, to each inquiry of this request that it answers for
abbrev pub RespondsBy : {F : Type 0} → (F → FunctionAnswers) → Bool → Evaluator F → RequestParts → Entries → PartialResponse → Type 0
RespondsBy answers with_false ev r es response =
    (i : Inquiry) (store : Entities) (table : Table) (depth : ℕ) → i.request ≡ r → IsEvaluatorOf answers i store table depth ev → RespondsWith with_false i store table depth es response
