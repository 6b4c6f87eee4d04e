-- What a response is made of.
use Rattle.std.specs.Prelude.{◌≡◌, List, [], ◌∷◌}
use Rattle.std.specs.declared.alloc.Global.{Global}
use Rattle.std.specs.declared.rc.Rc.{Rc}
use Rattle.cedar_grammar.specs.Build.{Keyed}
use Rattle.cedar_language.specs.Uid.{Text}
use Rattle.cedar_policy_set.specs.Places.{put}
use Rattle.cedar_requests.specs.declared.requests.Request.{Request}
use Rattle.cedar_trees.specs.declared.expr.Expr.{Expr}
use Rattle.cedar_evaluator.specs.declared.errors.AuthorizationError.{AuthorizationError}
use Rattle.cedar_evaluator.specs.declared.partial_response.ErrorState.{ErrorState}
use Rattle.cedar_evaluator.specs.declared.partial_response.PartialResponse.{PartialResponse}

-- the entries put in one after another: of an id that stands twice its first place is kept, with what stands last
abbrev pub put_in : {V : Type 0} → List (Text × V) → List (Text × V) → List (Text × V)
put_in done [] = done
put_in done (e ∷ es) = put_in (put done e.0 e.1) es

abbrev pub gathered : {V : Type 0} → List (Text × V) → List (Text × V)
gathered es = put_in [] es

-- the annotations of a policy, shared
abbrev pub Noted : Type 0
Noted = Rc (List (Keyed Text)) Global

-- the policies of each group, the errors, and the request
pub record AreGiven
    (satisfied_permits : List (Text × Noted))
    (false_permits : List (Text × (ErrorState × Noted)))
    (residual_permits : List (Text × (Rc (Expr (Unit {0})) Global × Noted)))
    (satisfied_forbids : List (Text × Noted))
    (false_forbids : List (Text × (ErrorState × Noted)))
    (residual_forbids : List (Text × (Rc (Expr (Unit {0})) Global × Noted)))
    (errors : List AuthorizationError)
    (request : Rc Request Global)
    (response : PartialResponse) : Type 0 where
  pub satisfied_permits_are : response.satisfied_permits ≡ gathered satisfied_permits
  pub false_permits_are : response.false_permits ≡ gathered false_permits
  pub residual_permits_are : response.residual_permits ≡ gathered residual_permits
  pub satisfied_forbids_are : response.satisfied_forbids ≡ gathered satisfied_forbids
  pub false_forbids_are : response.false_forbids ≡ gathered false_forbids
  pub residual_forbids_are : response.residual_forbids ≡ gathered residual_forbids
  pub errors_are : response.errors.items ≡ errors
  pub request_is : response.request ≡ request
