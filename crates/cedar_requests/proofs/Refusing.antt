-- Errors that are passed up.
use Rattle.std.proofs.Common.{◌≡◌, ℕ, true}
use Rattle.std.specs.Prelude.{Result, Ok, Err}
use Rattle.std.specs.Result.{IsErrAnd}
use Rattle.cedar_language.specs.Tree.{Tree}
use Rattle.cedar_extensions.specs.declared.evaluation_error.EvaluationError.{EvaluationError}
use Rattle.cedar_extensions.specs.declared.evaluation_error.EvaluationError.TheVariants as evaluation
use Rattle.cedar_extensions.specs.Table.{Table}
use Rattle.cedar_requests.specs.Contexts.{is_record}
use Rattle.cedar_requests.specs.Creating.{MeansContext, AnswersContext, Creates}
use Rattle.cedar_requests.specs.Refusals.{by_evaluation}

pub at_err : {T E : Type 0} (P : Result T E → Type 0) (Made : E → Type 0) (r : Result T E) → IsErrAnd r Made → ((e : E) → Made e → P (Err e)) → P r
at_err P Made (Ok x) h on = absurd h
at_err P Made (Err e) h on = on e h

-- an error of the evaluation of a record refuses the context
pub evaluation_refused : (table : Table) (depth : ℕ) (t : Tree) (e : EvaluationError) → is_record t ≡ true → MeansContext table depth t (Err e) → AnswersContext table depth t (Err e) → Creates table depth t (Err (by_evaluation e))
evaluation_refused table depth t evaluation.Memory h m a = record { written = tt; meaning = tt; answer = tt; limit = tt }
evaluation_refused table depth t e h m a = record { written = h; meaning = m; answer = a; limit = tt }
