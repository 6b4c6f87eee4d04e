-- What an evaluation answers, against what is meant. Want of memory says nothing of the meaning, and a limit that was
-- met only that the evaluation is as deep as stated; every other error is that of the meaning.
use Rattle.std.specs.Prelude.{◌≡◌, ⊤, Result, Ok, Err}
use Rattle.cedar_language.specs.Value as language
use Rattle.cedar_language.specs.Value.{Value, Kind, Outcome}
use Rattle.cedar_extensions.specs.Failures.{Failure, OfKind, LimitMet, MemoryRanOut, failure_of}
use Rattle.cedar_extensions.specs.declared.evaluation_error.EvaluationError.{EvaluationError}

-- a failure that may stand where `Errs` holds of its kind, or where the evaluation is `deep`
abbrev pub FailsBy : Type 0 → (Kind → Type 0) → Failure → Type 0
FailsBy deep Errs (OfKind k) = Errs k
FailsBy deep Errs LimitMet = deep
FailsBy deep Errs MemoryRanOut = ⊤

-- an answer of which `Is` holds, or a failure that may stand
abbrev pub GivesBy : {X : Type 0} → (X → Type 0) → (Kind → Type 0) → Type 0 → Result X EvaluationError → Type 0
GivesBy Is Errs deep (Ok x) = Is x
GivesBy Is Errs deep (Err e) = FailsBy deep Errs (failure_of e)

-- what was answered, seen by `view`, is what is meant
abbrev pub Gives : {X : Type 0} → (X → Value) → Type 0 → Result X EvaluationError → Outcome → Type 0
Gives view deep result meant = GivesBy (λ x. meant ≡ language.Gives (view x)) (λ k. meant ≡ language.Fails k) deep result

-- the same against a relation: what was answered stands in it
abbrev pub Follows : {X : Type 0} → (X → Value) → Type 0 → Result X EvaluationError → (Outcome → Type 0) → Type 0
Follows view deep result Means = GivesBy (λ x. Means (language.Gives (view x))) (λ k. Means (language.Fails k)) deep result

-- a failure may stand for whatever errs alike, and is as deep
pub fails_on : {deep deeper : Type 0} {Errs Others : Kind → Type 0} (f : Failure) → ((k : Kind) → Errs k → Others k) → (deep → deeper) → FailsBy deep Errs f → FailsBy deeper Others f
fails_on (OfKind k) alike below h = alike k h
fails_on LimitMet alike below h = below h
fails_on MemoryRanOut alike below h = tt
