-- The errors of policies, listed one after another.
use Rattle.std.proofs.Common.{◌≡◌, ◌<◌, ℕ, sym, subst, List, map, length, get_or, Err}
use Rattle.std.specs.List.{Contains}
use Rattle.std.proofs.lemmas.List.Elements.{Contains-get_or}
use Rattle.cedar_language.specs.Uid.{Text}
use Rattle.cedar_extensions.specs.Failures.{Failure}
use Rattle.cedar_replies.specs.declared.refusal.Refusal.{Refusal}
use Rattle.cedar_replies.specs.declared.refusal.Refusal.TheVariants as refusal
use Rattle.cedar_asking.specs.Erring.{ListsError, ListsErrors}
use Rattle.cedar_evaluator.specs.Holding.{error_seen}
use Rattle.cedar_evaluator.specs.declared.errors.AuthorizationError.{AuthorizationError}
use Rattle.cedar_evaluator.proofs.Lists.{contained, contains, mapped}

at_limit : (e : Text × Failure) (es : List (Text × Failure)) → Contains es e → (r : Refusal) → ListsError e (Err r) → ListsErrors es (Err r)
at_limit e es here refusal.Depth h = (e.0, subst (λ (f : Failure). Contains es (e.0, f)) h here)
at_limit e es here refusal.Memory h = tt
at_limit e es here r h = absurd h

pub stops : (errors : List AuthorizationError) (i : ℕ) (e : AuthorizationError) → i < length errors → e ≡ get_or errors i e → (r : Refusal) → ListsError (error_seen e) (Err r) → ListsErrors (map error_seen errors) (Err r)
stops errors i e below is r h =
    at_limit (error_seen e) (map error_seen errors) (contains (map error_seen errors) (error_seen e) (mapped error_seen errors e (contained errors e (subst (λ (x : AuthorizationError). Contains errors x) (sym is) (Contains-get_or errors i e below))))) r h
