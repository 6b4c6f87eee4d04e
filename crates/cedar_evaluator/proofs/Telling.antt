-- The first variable of which another value is told, and the errors of a request with what is told of it.
use Rattle.std.proofs.Common.{◌≡◌, ℕ, Option, Some, None, List, ◌∙◌, ap, subst}
use Rattle.std.specs.Prelude.{Result, Err, codes}
use Rattle.std.specs.declared.alloc.Global.{Global}
use Rattle.std.specs.declared.rc.RcStr.{RcStr}
use Rattle.either.specs.declared.Either.{Either}
use Rattle.cedar_language.specs.Tree.{Variable, Principal, Action, Resource, Context, Tree}
use Rattle.cedar_language.specs.Uid.{Text}
use Rattle.cedar_language.specs.Value.{Value}
use Rattle.cedar_partial_evaluation.specs.Question.{Part}
use Rattle.cedar_literals.specs.Variables.{variable_text}
use Rattle.cedar_substitution.specs.Told.{told_for}
use Rattle.cedar_extensions.specs.Table.{Table}
use Rattle.cedar_extensions.specs.declared.evaluation_error.EvaluationError.{EvaluationError}
use Rattle.cedar_extensions.specs.declared.evaluation_error.EvaluationError.TheVariants as evaluation
use Rattle.cedar_requests.specs.Holding.{RequestParts}
use Rattle.cedar_requests.specs.Telling.{TellsContext}
use Rattle.cedar_requests.specs.declared.entries.EntityUIDEntry.{EntityUIDEntry}
use Rattle.cedar_evaluator.specs.Concretizing.{Conflict, NotOfKind, AlreadyGiven, OfOtherType, context_conflict, conflict_of, or_first, first_conflict, kind_of, held_of, type_of, IsRefused, TellsConflict, TellsPart, TellsMaybeContext}
use Rattle.cedar_evaluator.specs.Refusals.{by_evaluation}
use Rattle.cedar_evaluator.specs.declared.errors.ConcretizationError.{ConcretizationError}
use Rattle.cedar_evaluator.specs.declared.errors.ConcretizationError.TheVariants.{ValueError, VarConfictError, EntityTypeConfictError, ValueEval, Memory}

-- of a part that is this one, with what is told under a name
pub told_part : (name : Text) (p q : Part) (o x : Option Value) (result : Result EntityUIDEntry ConcretizationError) → p ≡ q → o ≡ x → TellsPart name p o result → TellsPart name q x result
told_part name p q o x result e f h = subst (λ (y : Option Value). TellsPart name q y result) f (subst (λ (s : Part). TellsPart name s o result) e h)

module _ (table : Table) (depth : ℕ) (entries : List (RcStr Global × Value)) where
  -- an error of the evaluation of the context; want of memory stays what it is
  pub evaluation_refused : (c : Option (Either Value Tree)) (p : Either Value Tree) → c ≡ Some p → told_for entries (codes "context") ≡ None → (e : EvaluationError) → TellsContext table depth entries p (Err e) → TellsMaybeContext table depth entries c (Err (by_evaluation e))
  evaluation_refused c p is none evaluation.Memory h = tt
  evaluation_refused c p is none e h = (ap (context_conflict c) none, (p, is, h))

  module _ (r : RequestParts) where
    -- ---- the first conflict

    abbrev told : Text → Option Value
    told = told_for entries

    -- from the context on, and from the resource on
    abbrev in_context : Option (Variable × Conflict)
    in_context = or_first Context (conflict_of told r Context) None

    abbrev from_resource : Option (Variable × Conflict)
    from_resource = or_first Resource (conflict_of told r Resource) in_context

    abbrev from_action : Option (Variable × Conflict)
    from_action = or_first Action (conflict_of told r Action) from_resource

    abbrev HasNone : Variable → Type 0
    HasNone v = conflict_of told r v ≡ None

    after_principal : HasNone Principal → first_conflict told r ≡ from_action
    after_principal p = ap (λ o. or_first Principal o from_action) p

    after_action : HasNone Principal → HasNone Action → first_conflict told r ≡ from_resource
    after_action p a = after_principal p ∙ ap (λ o. or_first Action o from_resource) a

    after_resource : HasNone Principal → HasNone Action → HasNone Resource → first_conflict told r ≡ in_context
    after_resource p a s = after_action p a ∙ ap (λ o. or_first Resource o in_context) s

    pub no_conflict : HasNone Principal → HasNone Action → HasNone Resource → HasNone Context → first_conflict told r ≡ None
    no_conflict p a s c = after_resource p a s ∙ ap (λ o. or_first Context o None) c

    -- a conflict of the variable is the first
    abbrev pub IsNext : Variable → Type 0
    IsNext v = (c : Conflict) → conflict_of told r v ≡ Some c → first_conflict told r ≡ Some (v, c)

    pub next_principal : IsNext Principal
    next_principal c is = ap (λ o. or_first Principal o from_action) is

    pub next_action : HasNone Principal → IsNext Action
    next_action p c is = after_principal p ∙ ap (λ o. or_first Action o from_resource) is

    pub next_resource : HasNone Principal → HasNone Action → IsNext Resource
    next_resource p a c is = after_action p a ∙ ap (λ o. or_first Resource o in_context) is

    next_context : HasNone Principal → HasNone Action → HasNone Resource → IsNext Context
    next_context p a s c is = after_resource p a s ∙ ap (λ o. or_first Context o None) is

    -- ---- errors

    -- what an error says of a variable it says of the request
    pub refused_at : (v : Variable) → IsNext v → (e : ConcretizationError) → TellsConflict (variable_text v) (kind_of v) (told (variable_text v)) (held_of r v) (type_of r v) (conflict_of told r v) e → IsRefused table depth entries r e
    refused_at v next (ValueError id kind given) h = (v, record { named = h.0; given_is = ap told h.0 ∙ h.1; first = next NotOfKind h.2 }, h.3)
    refused_at v next (VarConfictError id existing given) h = (v, record { named = h.0; given_is = ap told h.0 ∙ h.1; first = next AlreadyGiven h.2 }, h.3)
    refused_at v next (EntityTypeConfictError id existing given) h = (v, record { named = h.0; given_is = ap told h.0 ∙ h.1; first = next OfOtherType h.2 }, h.3)
    refused_at v next (ValueEval e) h = absurd h
    refused_at v next (Memory e) h = tt

    pub context_refused : HasNone Principal → HasNone Action → HasNone Resource → (e : ConcretizationError) → TellsMaybeContext table depth entries r.context (Err e) → IsRefused table depth entries r e
    context_refused p a s (ValueError id kind given) h = refused_at Context (next_context p a s) (ValueError id kind given) h
    context_refused p a s (VarConfictError id existing given) h = refused_at Context (next_context p a s) (VarConfictError id existing given) h
    context_refused p a s (EntityTypeConfictError id existing given) h = refused_at Context (next_context p a s) (EntityTypeConfictError id existing given) h
    context_refused p a s (ValueEval e) h = (no_conflict p a s h.0, h.1)
    context_refused p a s (Memory e) h = tt
