-- What a response keeps of policies as they are gathered, by their effects and by what was found of them.
use Rattle.std.specs.Prelude.{◌≡◌, ℕ, Bool, true, false, Option, Some, None, List, [], ◌∷◌, ◌++◌, map, Result, Ok, Err}
use Rattle.std.specs.Map.{lookup, keys_of}
use Rattle.either.specs.declared.Either.{Either}
use Rattle.cedar_language.specs.Answering.{Permit, Forbid}
use Rattle.cedar_language.specs.Order.{same_text}
use Rattle.cedar_language.specs.Facts.{Facts}
use Rattle.cedar_language.specs.Uid.{Text}
use Rattle.cedar_entities.specs.declared.store.Entities.{Entities}
use Rattle.cedar_extensions.specs.Answering.{FunctionAnswers}
use Rattle.cedar_extensions.specs.Failures.{Failure, OfKind, LimitMet, MemoryRanOut, failure_of}
use Rattle.cedar_extensions.specs.declared.evaluation_error.EvaluationError.{EvaluationError}
use Rattle.cedar_extensions.specs.Table.{Table}
use Rattle.cedar_operators.specs.Store.{HasFacts}
use Rattle.cedar_evaluator.specs.Asking.{Inquiry, IsEvaluatorOf, request_held}
use Rattle.cedar_interpreter.specs.declared.evaluator.Evaluator.{Evaluator}
use Rattle.cedar_policies.specs.Policies.{bindings_of, policy_id, policy_syntax}
use Rattle.cedar_policies.specs.declared.policies.Policy.{Policy}
use Rattle.cedar_policy_set.specs.Bounds.{policy_seen}
use Rattle.cedar_policy_set.specs.Entries.{Entries}
use Rattle.cedar_trees.specs.declared.expr.Expr.{Expr}
use Rattle.cedar_evaluator.specs.Evaluating.{condition_of, found_by}
use Rattle.cedar_evaluator.specs.Evaluations.{Found, Erred, Kept, AreKept}
use Rattle.cedar_evaluator.specs.Holding.{holding_in}
use Rattle.cedar_evaluator.specs.Responses.{Annotated, Holding, if_effect, satisfied_id, false_id, open_id, error_id, annotated, errors_of, holding_of, without_false}
use Rattle.cedar_evaluator.specs.Scopes.{AreScopesOf, Tells}
use Rattle.cedar_evaluator.specs.declared.judging.Told.{Told}
use Rattle.cedar_evaluator.specs.declared.partial_response.PartialResponse.{PartialResponse as Response}
use Rattle.cedar_evaluator.specs.declared.scopes.Scopes.{Scopes}

-- one more at the end, where there is one
abbrev pub and_then : {X : Type 0} → List X → Option X → List X
and_then xs None = xs
and_then xs (Some x) = xs ++ x ∷ []

-- its annotations, in the group of what is kept of it
abbrev pub with_annotated : Kept → Annotated → Annotated
with_annotated k a = record {
  satisfied_permits = and_then a.satisfied_permits (if_effect Permit k.effect (annotated k (satisfied_id k.id k.found)));
  false_permits = and_then a.false_permits (if_effect Permit k.effect (annotated k (false_id k.id k.found)));
  open_permits = and_then a.open_permits (if_effect Permit k.effect (annotated k (open_id k.id k.found)));
  satisfied_forbids = and_then a.satisfied_forbids (if_effect Forbid k.effect (annotated k (satisfied_id k.id k.found)));
  false_forbids = and_then a.false_forbids (if_effect Forbid k.effect (annotated k (false_id k.id k.found)));
  open_forbids = and_then a.open_forbids (if_effect Forbid k.effect (annotated k (open_id k.id k.found)));
}

-- one more policy, in the group of what is kept of it
abbrev pub with_kept : Kept → Holding → Holding
with_kept k h = record {
  satisfied_permits = and_then h.satisfied_permits (if_effect Permit k.effect (satisfied_id k.id k.found));
  false_permits = and_then h.false_permits (if_effect Permit k.effect (false_id k.id k.found));
  open_permits = and_then h.open_permits (if_effect Permit k.effect (open_id k.id k.found));
  satisfied_forbids = and_then h.satisfied_forbids (if_effect Forbid k.effect (satisfied_id k.id k.found));
  false_forbids = and_then h.false_forbids (if_effect Forbid k.effect (false_id k.id k.found));
  open_forbids = and_then h.open_forbids (if_effect Forbid k.effect (open_id k.id k.found));
  errors = and_then h.errors (error_id k.id k.found);
  annotated = with_annotated k h.annotated;
}

-- what an evaluation answered, as what was found
abbrev pub found_in : Result (Either Bool (Expr (Unit {0}))) EvaluationError → Found
found_in (Ok e) = found_by e
found_in (Err e) = Erred (failure_of e)

-- what is kept of a policy of which this was found
abbrev pub kept_as : Policy → Found → Kept
kept_as p found = record { id = policy_id p; effect = (policy_syntax p).effect; annotations = (policy_syntax p).annotations; found = found }

-- or answered
abbrev pub kept_of : Policy → Result (Either Bool (Expr (Unit {0}))) EvaluationError → Kept
kept_of p answer = kept_as p (found_in answer)

-- want of memory
abbrev pub is_want : Failure → Bool
is_want (OfKind k) = false
is_want LimitMet = false
is_want MemoryRanOut = true

-- the answer isn't want of memory
abbrev pub IsKeepable : Result (Either Bool (Expr (Unit {0}))) EvaluationError → Type 0
IsKeepable answer = found_in answer ≡ Erred MemoryRanOut → ⊥

-- with the policies that aren't satisfied, or without them
abbrev pub held_with : Bool → Holding → Holding
held_with true h = h
held_with false h = without_false h

-- the ids of what is kept
abbrev pub ids_of : List Kept → List Text
ids_of ks = map (λ (k : Kept). k.id) ks

-- nothing stands under the policy's id
abbrev pub IsFree : {X : Type 0} → Policy → List (Text × X) → Type 0
IsFree p es = lookup (same_text (policy_id p)) es ≡ None

-- the policy's id stands in none of the groups
pub record IsNew (p : Policy) (r : Response) : Type 0 where
  pub satisfied_permits : IsFree p r.satisfied_permits
  pub false_permits : IsFree p r.false_permits
  pub open_permits : IsFree p r.residual_permits
  pub satisfied_forbids : IsFree p r.satisfied_forbids
  pub false_forbids : IsFree p r.false_forbids
  pub open_forbids : IsFree p r.residual_forbids

-- one more policy is kept, with those that aren't satisfied or without them
abbrev pub Adds : Bool → Kept → Response → Response → Type 0
Adds with_false k before after =
    (ks : List Kept) → holding_in before ≡ held_with with_false (holding_of ks) → holding_in after ≡ held_with with_false (holding_of (ks ++ k ∷ []))

-- the same where its error, if it errs, is kept already
abbrev pub AddsFalse : Bool → Kept → Response → Response → Type 0
AddsFalse with_false k before after =
    (ks : List Kept) → holding_in before ≡ record (held_with with_false (holding_of ks)) { errors = errors_of (ks ++ k ∷ []) }
    → holding_in after ≡ held_with with_false (holding_of (ks ++ k ∷ []))

-- of each policy what was found of it is kept, and nothing else
pub record Keeps (with_false : Bool) (i : Inquiry) (store : Entities) (table : Table) (depth : ℕ) (es : Entries) (r : Response) : Type 0 where
  pub kept : List Kept
  pub each : AreKept i store table depth es kept
  pub holds : holding_in r ≡ held_with with_false (holding_of kept)

-- for each inquiry that an evaluator and what is decided of scopes answer for
abbrev pub ForEach : {F : Type 0} → (F → FunctionAnswers) → Evaluator F → Scopes → (Inquiry → Entities → Table → ℕ → Type 0) → Type 0
ForEach answers ev scopes Holds =
    (i : Inquiry) (store : Entities) (table : Table) (depth : ℕ) →
    IsEvaluatorOf answers i store table depth ev → AreScopesOf i store scopes → Holds i store table depth

-- for each of them this is told of the policy
abbrev pub IsToldBy : {F : Type 0} → (F → FunctionAnswers) → Evaluator F → Scopes → Policy → Told → Type 0
IsToldBy answers ev scopes p told =
    ForEach answers ev scopes (λ i store table depth. (facts : Facts) → HasFacts store facts →
    Tells facts (request_held i (bindings_of p)) p (condition_of p) told)

-- by these, for each such inquiry
abbrev pub KeepsBy : {F : Type 0} → (F → FunctionAnswers) → Bool → Evaluator F → Scopes → Entries → Response → Type 0
KeepsBy answers with_false ev scopes es r = ForEach answers ev scopes (λ i store table depth. Keeps with_false i store table depth es r)

-- the same is kept for each of them, under the ids of the policies in their order
pub record KeepsEach
    {F : Type 0} (answers : F → FunctionAnswers) (with_false : Bool) (ev : Evaluator F) (scopes : Scopes)
    (es : Entries) (r : Response) : Type 0 where
  pub kept : List Kept
  pub ids : ids_of kept ≡ keys_of es
  pub each : ForEach answers ev scopes (λ i store table depth. AreKept i store table depth es kept)
  pub holds : holding_in r ≡ held_with with_false (holding_of kept)

-- a response that keeps what was found of some policies keeps then what was found of one more besides
abbrev pub KeepsOneMore : {F : Type 0} → (F → FunctionAnswers) → Bool → Evaluator F → Scopes → Policy → Response → Response → Type 0
KeepsOneMore answers with_false ev scopes p before after =
    (es : Entries) → KeepsEach answers with_false ev scopes es before → KeepsEach answers with_false ev scopes (es ++ policy_seen p ∷ []) after
