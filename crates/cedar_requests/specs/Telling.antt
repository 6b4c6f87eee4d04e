-- What a context gives once values are told for unknowns in it.
use Rattle.std.specs.Prelude.{◌≡◌, ◌<◌, ⊤, ℕ, List, [], ◌∷◌, Option, Some, None, Result, Ok, Err}
use Rattle.std.specs.Result.{IsOkAnd}
use Rattle.std.specs.declared.alloc.Global.{Global}
use Rattle.std.specs.declared.rc.RcStr.{RcStr}
use Rattle.either.specs.declared.Either.{Either}
use Rattle.either.specs.declared.Either.TheVariants.{Left, Right}
use Rattle.cedar_language.specs.Tree.{ValueType, Tree}
use Rattle.cedar_language.specs.Value.{Value, Kind, Fails}
use Rattle.cedar_language.specs.Facts.{Facts}
use Rattle.cedar_language.specs.Height.{height}
use Rattle.cedar_language.specs.Meaning.{Request, meaning}
use Rattle.cedar_partial_evaluation.specs.Partial.{Failed}
use Rattle.cedar_extensions.specs.Causes.{OtherType, cause_of}
use Rattle.cedar_extensions.specs.Failures.{failure_of}
use Rattle.cedar_extensions.specs.Giving.{FailsBy, GivesBy}
use Rattle.cedar_extensions.specs.declared.evaluation_error.EvaluationError.{EvaluationError}
use Rattle.cedar_extensions.specs.Table.{Table}
use Rattle.cedar_restricted_evaluation.specs.Evaluations.{HasFunctions, IsKnown, IsMeant, answer_in, part_answer}
use Rattle.cedar_substitution.specs.Typed.{SubstitutesValues, mistyped_in}
use Rattle.cedar_requests.specs.Contexts.{context_part}
use Rattle.cedar_requests.specs.declared.contexts.Context.{Context}

-- the error says which type is stated and which is told
abbrev pub IsMistyping : ValueType × ValueType → EvaluationError → Type 0
IsMistyping types e = cause_of e ≡ OtherType (types.0 ∷ []) types.1

-- an error exactly where there are such types
abbrev pub IsMistypingOf : Option (ValueType × ValueType) → Option EvaluationError → Type 0
IsMistypingOf None None = ⊤
IsMistypingOf None (Some e) = ⊥
IsMistypingOf (Some types) None = ⊥
IsMistypingOf (Some types) (Some e) = IsMistyping types e

-- the context is what the record is evaluated to: its meaning, where nothing is unknown in it, and always what partial evaluation
-- answers where no unknown has a value
pub record IsContextOf (table : Table) (t : Tree) (c : Context) : Type 0 where
  pub meant : IsKnown table t → (facts : Facts) → HasFunctions table facts → (request : Request) → IsMeant (meaning facts request t) (context_part c)
  pub answer : (facts : Facts) → HasFunctions table facts → answer_in table facts t ≡ part_answer (context_part c)

-- its evaluation errs so
pub record ErrsAs (table : Table) (t : Tree) (k : Kind) : Type 0 where
  pub meant : IsKnown table t → (facts : Facts) → HasFunctions table facts → (request : Request) → meaning facts request t ≡ Fails k
  pub answer : (facts : Facts) → HasFunctions table facts → answer_in table facts t ≡ Failed k

-- it holds of the tree with what writes the told values in the places of their unknowns
abbrev pub OfSubstituted : List (RcStr Global × Value) → Tree → (Tree → Type 0) → Type 0
OfSubstituted told t P = (u : Tree) × SubstitutesValues told t u × P u

-- what a record gives, where the first types are those at the leftmost unknown that is told a value of another type
abbrev pub TellsRecord : Table → ℕ → List (RcStr Global × Value) → Tree → Option (ValueType × ValueType) → Result Context EvaluationError → Type 0
TellsRecord table depth told t None result =
    GivesBy (λ c. OfSubstituted told t (λ u. IsContextOf table u c)) (λ k. OfSubstituted told t (λ u. ErrsAs table u k)) (OfSubstituted told t (λ u. depth < height u)) result
TellsRecord table depth told t (Some types) (Ok c) = ⊥
TellsRecord table depth told t (Some types) (Err e) = FailsBy ⊥ (λ k. IsMistyping types e) (failure_of e)

-- a context of values stays as it is, and of another one the record that is left is evaluated again
abbrev pub TellsContext : Table → ℕ → List (RcStr Global × Value) → Either Value Tree → Result Context EvaluationError → Type 0
TellsContext table depth told (Left v) result = IsOkAnd result (λ c. context_part c ≡ Left v)
TellsContext table depth told (Right t) result = TellsRecord table depth told t (mistyped_in told t) result
