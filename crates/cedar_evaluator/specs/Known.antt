-- What a request comes to where the policies mention nothing that is unknown: the answer of Cedar's rules.
-- (Cedar language reference, "Authorization".)
use Rattle.std.specs.Prelude.{◌≡◌, ℕ, Bool, true, false, Option, Some, None, List, map}
use Rattle.std.specs.List.{AllByRecursion, filter_map, list_any}
use Rattle.cedar_language.specs.Answering.{Standing, Erring, Judged, known_decision, is_reason, ids_with}
use Rattle.cedar_language.specs.Authorization.{Policy, Known, request_at, judged}
use Rattle.cedar_language.specs.Facts.{Facts}
use Rattle.cedar_language.specs.Tree.{Variable}
use Rattle.cedar_language.specs.Uid.{Text}
use Rattle.cedar_language.specs.Value.{Value}
use Rattle.cedar_partial_evaluation.specs.Mentions.{mentions_only}
use Rattle.cedar_partial_evaluation.specs.Partial.{Evaluated}
use Rattle.cedar_policy_parts.specs.Bindings.{unbound, binding_of}
use Rattle.cedar_policy_parts.specs.Decisions.{decision_of}
use Rattle.cedar_entities.specs.declared.store.Entities.{Entities}
use Rattle.cedar_extensions.specs.Failures.{Failure, OfKind, LimitMet, MemoryRanOut}
use Rattle.cedar_extensions.specs.Table.{Table}
use Rattle.cedar_evaluator.specs.Asking.{Inquiry, variable_asked}
use Rattle.cedar_policy_set.specs.Entries.{Entry, Entries, policies_of}
use Rattle.cedar_policy_set.specs.Texts.{syntax_in, condition_in}
use Rattle.cedar_requests.specs.Holding.{RequestParts}
use Rattle.cedar_evaluator.specs.Evaluations.{bindings_in, is_given, IsServed}
use Rattle.cedar_evaluator.specs.Holding.{error_seen}
use Rattle.cedar_evaluator.specs.declared.response.Response.{Response}

-- ---- what is known

-- the question has the value of each variable that the request gives
abbrev pub HasGiven : RequestParts → Known → Type 0
HasGiven r q = (v : Variable) (w : Value) → variable_asked r v ≡ Evaluated w → (request_at q (binding_of unbound)).variable v ≡ w

-- a static policy, or a link by its template and the entities that its slots are bound to
abbrev pub policy_in : Text × Entry → Policy
policy_in e = record { id = e.0; effect = (syntax_in e.1).effect; condition = condition_in e.1; slots = binding_of (bindings_in e.1) }

-- how it stands to the question by what its condition means
abbrev pub judged_in : Facts → Known → Text × Entry → Judged
judged_in facts q e = judged facts q (policy_in e)

module _ (i : Inquiry) (store : Entities) (table : Table) (depth : ℕ) where
  -- by these facts the condition can be evaluated, and it mentions only variables that the request gives, and no unknown
  pub record IsKnownPolicy (facts : Facts) (e : Text × Entry) : Type 0 where
    pub served : IsServed i store table depth facts (condition_in e.1)
    pub mentions : mentions_only (is_given i) true (condition_in e.1) ≡ true

-- ---- the answer

abbrev pub is_limit : Failure → Bool
is_limit (OfKind k) = false
is_limit LimitMet = true
is_limit MemoryRanOut = false

-- some policy met the limit of depth
abbrev pub meets_limit : List (Text × Failure) → Bool
meets_limit es = list_any (λ e. is_limit e.1) es

-- the policy's id and the kind of its error, where it errs
abbrev pub error_of : Text → Standing → Option (Text × Failure)
error_of id (Erring k) = Some (id, OfKind k)
error_of id _ = None

-- the decision of the rules, their reasons in the order of the policies, and the errors of those that err
pub record IsByRules (js : List Judged) (whole : Response) : Type 0 where
  pub decision : decision_of whole.decision ≡ known_decision js
  pub reasons : whole.diagnostics.reason ≡ ids_with (is_reason js) js
  pub errors : map error_seen whole.diagnostics.errors.items ≡ filter_map (λ (j : Judged). error_of j.id j.standing) js

-- Where each static policy and link of the set is known, and no policy met the limit, the response is the answer of the rules to each
-- question that has what the request gives.
abbrev pub AnswersByRules : Inquiry → Entities → Table → ℕ → Entries → Response → Type 0
AnswersByRules i store table depth es whole =
    (facts : Facts) (q : Known) → HasGiven i.request q → AllByRecursion (IsKnownPolicy i store table depth facts) (policies_of es) →
    meets_limit (map error_seen whole.diagnostics.errors.items) ≡ false →
    IsByRules (map (judged_in facts q) (policies_of es)) whole
