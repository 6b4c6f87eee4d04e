-- From the answers of parts to the answer of a construct.
use Rattle.std.proofs.Common.{◌≡◌, ◌∙◌, refl, ap, sym, subst, true, false}
use Rattle.std.specs.Prelude.{⊤, Result, Ok, Err}
use Rattle.std.specs.Result.{IsErr, IsErrAnd}
use Rattle.either.specs.declared.Either.{Either}
use Rattle.either.specs.declared.Either.TheVariants.{Left, Right}
use Rattle.cedar_language.specs.Tree.{Boolean, Tree}
use Rattle.cedar_language.specs.Value.{Value, Plain, Kind}
use Rattle.cedar_language.specs.Facts.{Facts}
use Rattle.cedar_partial_evaluation.specs.Partial.{Answer, Evaluated, ResidualTree, Failed, best_effort, last_answer, and_answer, or_answer, if_answer}
use Rattle.cedar_restricted.specs.PartialValues.{PartExpresses}
use Rattle.cedar_interpreter.proofs.Gathering.{written}
use Rattle.cedar_restricted.specs.declared.partial_values.PartialValue.{PartialValue}
use Rattle.cedar_extensions.specs.Failures.{Failure, OfKind, LimitMet, MemoryRanOut, failure_of}
use Rattle.cedar_extensions.specs.Giving.{FailsBy, GivesBy, fails_on}
use Rattle.cedar_extensions.specs.declared.evaluation_error.EvaluationError.{EvaluationError}
use Rattle.cedar_interpreter.specs.Meeting.{part_answer, MeetsAt, IsLimit, tested_answer, is_passed_up}

-- ---- errors that are handed on

pub passed : {X : Type 0} (Is : X → Type 0) (Stands : Kind → Type 0) (deep : Type 0) (b : EvaluationError) (result : Result X EvaluationError) → IsErr result × IsErrAnd result (λ y. y ≡ b) → FailsBy deep Stands (failure_of b) → GivesBy Is Stands deep result
passed Is Stands deep b (Ok x) err given = absurd err.1
passed Is Stands deep b (Err y) err given = subst (λ z. FailsBy deep Stands (failure_of z)) (sym err.1) given

-- the limit was met below
pub limit_passed : {X : Type 0} (b : EvaluationError) (result : Result X EvaluationError) → IsErr result × IsErrAnd result (λ y. y ≡ b) → IsLimit result → failure_of b ≡ LimitMet
limit_passed b (Ok x) err h = absurd h
limit_passed b (Err y) err h = ap failure_of (sym err.1) ∙ h

pub meets_as : (result : Result PartialValue EvaluationError) (a b : Answer) → a ≡ b → MeetsAt ⊤ b result → MeetsAt ⊤ a result
meets_as result a b is h = subst (λ c. MeetsAt ⊤ c result) (sym is) h

pub meets_anyhow : (r : Result PartialValue EvaluationError) (b : Answer) → MeetsAt ⊥ b r → MeetsAt ⊤ b r
meets_anyhow (Ok p) b h = h
meets_anyhow (Err e) b h = fails_on (failure_of e) (λ k s. s) (λ d. tt) h

pub never_limit : (b : Answer) (r : Result PartialValue EvaluationError) → MeetsAt ⊥ b r → IsLimit r → ⊥
never_limit b (Ok p) h l = l
never_limit b (Err e) h l = subst (λ f. FailsBy ⊥ (λ k. b ≡ Failed k) f) l h

-- ---- what is tested

module _ (facts : Facts) where
  and_tests : (b y : Answer) (t : Tree) → and_answer facts b y t ≡ and_answer facts (tested_answer b) y t
  and_tests (Evaluated (Plain (Boolean true))) y t = refl
  and_tests (Evaluated (Plain (Boolean false))) y t = refl
  and_tests (Evaluated _) y t = refl
  and_tests (ResidualTree r) y t = refl
  and_tests (Failed k) y t = refl

  or_tests : (b y : Answer) (t : Tree) → or_answer facts b y t ≡ or_answer facts (tested_answer b) y t
  or_tests (Evaluated (Plain (Boolean true))) y t = refl
  or_tests (Evaluated (Plain (Boolean false))) y t = refl
  or_tests (Evaluated _) y t = refl
  or_tests (ResidualTree r) y t = refl
  or_tests (Failed k) y t = refl

  if_tests : (b y z : Answer) (t u : Tree) → if_answer facts b y z t u ≡ if_answer facts (tested_answer b) y z t u
  if_tests (Evaluated (Plain (Boolean true))) y z t u = refl
  if_tests (Evaluated (Plain (Boolean false))) y z t u = refl
  if_tests (Evaluated _) y z t u = refl
  if_tests (ResidualTree r) y z t u = refl
  if_tests (Failed k) y z t u = refl

  module _ (b y : Answer) (t : Tree) where
    pub and_as : (c : Answer) → tested_answer b ≡ c → and_answer facts b y t ≡ and_answer facts c y t
    and_as c h = and_tests b y t ∙ ap (λ x. and_answer facts x y t) h

    pub or_as : (c : Answer) → tested_answer b ≡ c → or_answer facts b y t ≡ or_answer facts c y t
    or_as c h = or_tests b y t ∙ ap (λ x. or_answer facts x y t) h

  pub if_as : (b y z : Answer) (t u : Tree) (c : Answer) → tested_answer b ≡ c → if_answer facts b y z t u ≡ if_answer facts c y z t u
  if_as b y z t u c h = if_tests b y z t u ∙ ap (λ x. if_answer facts x y z t u) h

last_tests : (f : Tree → Tree) (y : Answer) → last_answer f y ≡ last_answer f (tested_answer y)
last_tests f (Evaluated (Plain (Boolean b))) = refl
last_tests f (Evaluated _) = refl
last_tests f (ResidualTree r) = refl
last_tests f (Failed k) = refl

pub last_as : (f : Tree → Tree) (y c : Answer) → tested_answer y ≡ c → last_answer f y ≡ last_answer f c
last_as f y c h = last_tests f y ∙ ap (last_answer f) h

-- ---- what writes a value, and best effort

module _ (facts : Facts) where
  pub effort_found : (p : Either Value Tree) (e t : Tree) → PartExpresses p e → e ≡ best_effort facts (part_answer p) t
  effort_found (Left v) e t w = written facts v e w
  effort_found (Right r) e t w = w

  pub effort_kept : (f : Failure) (y : Answer) (t : Tree) → is_passed_up f ≡ false → FailsBy ⊤ (λ k. y ≡ Failed k) f → best_effort facts y t ≡ t
  effort_kept (OfKind k) y t n h = ap (λ x. best_effort facts x t) h
  effort_kept LimitMet y t n h = cc
  effort_kept MemoryRanOut y t n h = cc

-- an error that is handed on is none of the operand's
pub effort_handed : (f : Failure) (y : Answer) → is_passed_up f ≡ true → FailsBy ⊤ (λ k. y ≡ Failed k) f → FailsBy ⊤ (λ k. ⊥) f
effort_handed (OfKind k) y n h = cc
effort_handed LimitMet y n h = tt
effort_handed MemoryRanOut y n h = tt
