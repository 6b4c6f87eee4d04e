-- A response made anew, and why there is none.
use Rattle.std.proofs.Common.{◌≡◌, ℕ, List, subst}
use Rattle.std.specs.Prelude.{Err}
use Rattle.std.specs.List.{IsDistinct}
use Rattle.std.specs.Map.{keys_of}
use Rattle.std.specs.declared.alloc.Global.{Global}
use Rattle.std.specs.declared.rc.RcStr.{RcStr}
use Rattle.cedar_language.specs.Order.{same_text}
use Rattle.cedar_language.specs.Value.{Value}
use Rattle.cedar_entities.specs.declared.store.Entities.{Entities as Store}
use Rattle.cedar_extensions.specs.Table.{Table}
use Rattle.cedar_evaluator.specs.Asking.{Inquiry}
use Rattle.cedar_policy_set.specs.Entries.{Entries, policies_of}
use Rattle.cedar_policy_set.specs.declared.errors.PolicySetError.{PolicySetError}
use Rattle.cedar_policy_set.specs.declared.errors.PolicySetError.TheVariants as adding
use Rattle.cedar_requests.specs.Holding.{RequestParts}
use Rattle.cedar_substitution.specs.Told.{told_for}
use Rattle.cedar_evaluator.specs.Authorizing.{Responds}
use Rattle.cedar_evaluator.specs.Concretizing.{IsConcreteRequest, IsRefused}
use Rattle.cedar_evaluator.specs.Evaluations.{AreKept}
use Rattle.cedar_evaluator.specs.Holding.{request_asked}
use Rattle.cedar_evaluator.specs.Reauthorizing.{IsNoSet, IsReauthorized, Reauthorizes}
use Rattle.cedar_evaluator.specs.Refusals.{by_policy_set, by_concretization}
use Rattle.cedar_evaluator.specs.Residuals.{residuals_with, is_any}
use Rattle.cedar_evaluator.specs.declared.errors.ConcretizationError.{ConcretizationError}
use Rattle.cedar_evaluator.specs.declared.errors.ConcretizationError.TheVariants.{ValueError, VarConfictError, EntityTypeConfictError, ValueEval, Memory}
use Rattle.cedar_evaluator.specs.declared.partial_response.PartialResponse.{PartialResponse}

module _ (store : Store) (table : Table) (depth : ℕ) (entries : List (RcStr Global × Value)) (response : PartialResponse) where
  abbrev inquiry : RequestParts → Inquiry
  inquiry request = record { request = request; told = told_for entries }

  pub reauthorized : (again : PartialResponse) (request : RequestParts) (set : Entries) → policies_of set ≡ residuals_with is_any response → IsConcreteRequest table depth entries (request_asked response) request
      → Responds (inquiry request) store table depth set again → IsReauthorized store table depth entries response again
  reauthorized again request set is concrete responds = record {
    request = request;
    concrete = concrete;
    kept = responds.kept;
    each = subst (λ (es : Entries). AreKept (inquiry request) store table depth es responds.kept) is responds.each;
    holds = responds.holds;
    asked = responds.asked;
    apart = responds.apart;
  }

  pub no_set : (e : PolicySetError) → IsNoSet (residuals_with is_any response) e → Reauthorizes store table depth entries response (Err (by_policy_set e))
  no_set (adding.Occupied id) h = h
  no_set (adding.Memory e) h = tt

  pub no_request : IsDistinct same_text (keys_of (residuals_with is_any response)) → (e : ConcretizationError) → IsRefused table depth entries (request_asked response) e → Reauthorizes store table depth entries response (Err (by_concretization e))
  no_request apart (ValueError id kind given) h = (apart, h)
  no_request apart (VarConfictError id existing given) h = (apart, h)
  no_request apart (EntityTypeConfictError id existing given) h = (apart, h)
  no_request apart (ValueEval e) h = (apart, h)
  no_request apart (Memory e) h = tt
