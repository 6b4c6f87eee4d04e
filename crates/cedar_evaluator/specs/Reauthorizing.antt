-- What a response comes to once values are told: what is then found of the policies that are left.
use Rattle.std.specs.Prelude.{◌≡◌, ⊤, ℕ, true, List, ◌∷◌, ◌++◌, Result, Ok, Err}
use Rattle.std.specs.List.{IsDistinct, list_any}
use Rattle.std.specs.Map.{keys_of}
use Rattle.std.specs.declared.alloc.Global.{Global}
use Rattle.std.specs.declared.rc.RcStr.{RcStr}
use Rattle.cedar_language.specs.Order.{same_text}
use Rattle.cedar_language.specs.Uid.{Text}
use Rattle.cedar_language.specs.Value.{Value}
use Rattle.cedar_substitution.specs.Told.{told_for}
use Rattle.cedar_extensions.specs.Table.{Table}
use Rattle.cedar_entities.specs.declared.store.Entities.{Entities as Store}
use Rattle.cedar_policy_set.specs.Entries.{Entries}
use Rattle.cedar_policy_set.specs.declared.errors.PolicySetError.{PolicySetError}
use Rattle.cedar_policy_set.specs.declared.errors.PolicySetError.TheVariants.{Occupied, Memory as WantOfMemory}
use Rattle.cedar_requests.specs.Holding.{RequestParts}
use Rattle.cedar_evaluator.specs.Concretizing.{IsConcreteRequest, IsRefused}
use Rattle.cedar_evaluator.specs.Evaluations.{Kept, AreKept}
use Rattle.cedar_evaluator.specs.Holding.{request_asked, holding_in}
use Rattle.cedar_evaluator.specs.Residuals.{residuals_with, is_any}
use Rattle.cedar_evaluator.specs.Responses.{holding_of}
use Rattle.cedar_evaluator.specs.declared.errors.ReauthorizationError.{ReauthorizationError}
use Rattle.cedar_evaluator.specs.declared.errors.ReauthorizationError.TheVariants as answering
use Rattle.cedar_evaluator.specs.declared.partial_response.PartialResponse.{PartialResponse}

-- the first id that stands twice: those before its second place are apart, and it is one of them
pub record IsFirstTwice (ids : List Text) (id : Text) : Type 0 where
  pub before : List Text
  pub after : List Text
  pub order : ids ≡ before ++ id ∷ after
  pub apart : IsDistinct same_text before
  pub again : list_any (same_text id) before ≡ true

-- two of these policies have this id, and no two that come before the second have one; want of memory says nothing
abbrev pub IsNoSet : Entries → PolicySetError → Type 0
IsNoSet es (Occupied id) = IsFirstTwice (keys_of es) id
IsNoSet es (WantOfMemory e) = ⊤

-- the same, where want of memory is another error
abbrev pub IsSetError : Entries → PolicySetError → Type 0
IsSetError es (Occupied id) = IsFirstTwice (keys_of es) id
IsSetError es (WantOfMemory e) = ⊥

-- Of each policy that is left, in the order of the response, what is found of it for the request with what is told is kept, and nothing
-- else: of each group its policies, each with the annotations that the response has of it, and the errors; no id stands in two groups.
pub record IsReauthorized (store : Store) (table : Table) (depth : ℕ) (entries : List (RcStr Global × Value)) (response again : PartialResponse) : Type 0 where
  pub request : RequestParts
  pub concrete : IsConcreteRequest table depth entries (request_asked response) request
  pub kept : List Kept
  pub each : AreKept (record { request = request; told = told_for entries }) store table depth (residuals_with is_any response) kept
  pub holds : holding_in again ≡ holding_of kept
  pub asked : request_asked again ≡ request
  pub apart : IsDistinct same_text (keys_of (residuals_with is_any again))

-- The response made anew, or why there is none: an id stands twice among the policies that are left; or none does, and the values aren't
-- taken.
abbrev pub Reauthorizes : Store → Table → ℕ → List (RcStr Global × Value) → PartialResponse → Result PartialResponse ReauthorizationError → Type 0
Reauthorizes store table depth entries response (Ok again) = IsReauthorized store table depth entries response again
Reauthorizes store table depth entries response (Err (answering.PolicySetError e)) = IsSetError (residuals_with is_any response) e
Reauthorizes store table depth entries response (Err (answering.ConcretizationError e)) =
    IsDistinct same_text (keys_of (residuals_with is_any response)) × IsRefused table depth entries (request_asked response) e
Reauthorizes store table depth entries response (Err (answering.Memory e)) = ⊤
