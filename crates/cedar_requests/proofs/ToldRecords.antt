-- What a record gives once values are told, by what the record gives in which they are written.
use Rattle.std.proofs.Common.{◌≡◌, ◌<◌, ℕ, refl, sym, subst, List}
use Rattle.std.specs.Prelude.{Option, None, Some, Result, Ok, Err}
use Rattle.std.specs.declared.alloc.Global.{Global}
use Rattle.std.specs.declared.rc.RcStr.{RcStr}
use Rattle.cedar_language.specs.Facts.{Facts}
use Rattle.cedar_language.specs.Height.{height}
use Rattle.cedar_language.specs.Meaning.{Request, meaning}
use Rattle.cedar_language.specs.Tree.{ValueType, Tree}
use Rattle.cedar_language.specs.Value.{Value, Fails}
use Rattle.cedar_partial_evaluation.specs.Partial.{Failed}
use Rattle.cedar_extensions.specs.Failures.{Failure, OfKind, LimitMet, MemoryRanOut, failure_by, failure_of}
use Rattle.cedar_extensions.specs.Giving.{FailsBy}
use Rattle.cedar_extensions.specs.declared.evaluation_error.EvaluationError.{EvaluationError}
use Rattle.cedar_extensions.specs.declared.evaluation_error.EvaluationError.TheVariants as evaluation
use Rattle.cedar_extensions.specs.Table.{Table, functions_of}
use Rattle.cedar_restricted_evaluation.specs.Evaluations.{HasFunctions, IsKnown, answer_in}
use Rattle.cedar_substitution.specs.Typed.{SubstitutesValues}
use Rattle.cedar_requests.specs.Creating.{MeansContext, AnswersContext}
use Rattle.cedar_requests.specs.Telling.{IsMistyping, IsMistypingOf, ErrsAs, OfSubstituted, TellsRecord}
use Rattle.cedar_requests.specs.declared.contexts.Context.{Context}

module _ (table : Table) (depth : ℕ) (told : List (RcStr Global × Value)) (t : Tree) where
  pub mistyping_refused : (types : Option (ValueType × ValueType)) (e : EvaluationError) → IsMistypingOf types (Some e) → TellsRecord table depth told t types (Err e)
  mistyping_refused None e h = absurd h
  mistyping_refused (Some types) e h = subst (λ x. FailsBy ⊥ (λ k. IsMistyping types e) (failure_by x)) (sym h) h

  pub memory_refused : (types : Option (ValueType × ValueType)) → TellsRecord table depth told t types (Err evaluation.Memory)
  memory_refused None = tt
  memory_refused (Some types) = tt

  module _ (u : Tree) (written : SubstitutesValues told t u) where
    errs_on : (f : Failure)
        → (IsKnown table u → (facts : Facts) → HasFunctions table facts → (request : Request) → FailsBy (depth < height u) (λ k. meaning facts request u ≡ Fails k) f)
        → ((facts : Facts) → HasFunctions table facts → FailsBy (depth < height u) (λ k. answer_in table facts u ≡ Failed k) f)
        → FailsBy (OfSubstituted told t (λ u. depth < height u)) (λ k. OfSubstituted told t (λ u. ErrsAs table u k)) f
    errs_on (OfKind k) meant answer = (u, written, record { meant = meant; answer = answer })
    errs_on LimitMet meant answer = (u, written, answer (functions_of table) (λ n. refl))
    errs_on MemoryRanOut meant answer = tt

    pub tells : (types : Option (ValueType × ValueType)) (result : Result Context EvaluationError) → IsMistypingOf types None → MeansContext table depth u result → AnswersContext table depth u result → TellsRecord table depth told t types result
    tells None (Ok c) h meant answer = (u, written, record { meant = meant; answer = answer })
    tells None (Err e) h meant answer = errs_on (failure_of e) meant answer
    tells (Some types) result h meant answer = absurd h
