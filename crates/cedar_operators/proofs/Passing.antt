-- Errors that are passed on.
use Rattle.std.proofs.Common.{◌≡◌, Result, Ok, Err, IsErr, IsErrAnd, sym, subst}
use Rattle.cedar_language.specs.Value.{Kind}
use Rattle.cedar_extensions.specs.Failures.{OfKind, failure_of}
use Rattle.cedar_extensions.specs.Giving.{GivesBy, FailsBy, fails_on}
use Rattle.cedar_extensions.specs.declared.evaluation_error.EvaluationError.{EvaluationError}

-- an error that stands there stands here too
pub passed : {X : Type 0} {Errs Others : Kind → Type 0} (Is : X → Type 0) (e : EvaluationError) (result : Result X EvaluationError) → ((k : Kind) → Errs k → Others k) →
    IsErr result × IsErrAnd result (λ y. y ≡ e) → FailsBy ⊥ Errs (failure_of e) → GivesBy Is Others ⊥ result
passed Is e (Ok x) alike err given = absurd err.1
passed {Others = Others} Is e (Err y) alike err given = subst (λ z. FailsBy ⊥ Others (failure_of z)) (sym err.1) (fails_on (failure_of e) alike (λ d. d) given)

-- an error of this kind may stand
pub fails_as : (Errs : Kind → Type 0) (e : EvaluationError) (k : Kind) → failure_of e ≡ OfKind k → Errs k → FailsBy ⊥ Errs (failure_of e)
fails_as Errs e k is h = subst (FailsBy ⊥ Errs) (sym is) h
