-- What an evaluator of restricted expressions holds, and which value it answers.
use Rattle.std.specs.Prelude.{◌<◌, ℕ, Result}
use Rattle.cedar_language.specs.Tree.{Tree}
use Rattle.cedar_language.specs.Value.{Value}
use Rattle.cedar_language.specs.Facts.{Facts}
use Rattle.cedar_language.specs.Height.{height}
use Rattle.cedar_language.specs.Meaning.{Request, meaning}
use Rattle.cedar_extensions.specs.Answering.{FunctionAnswers}
use Rattle.cedar_extensions.specs.Giving.{Gives}
use Rattle.cedar_extensions.specs.declared.evaluation_error.EvaluationError.{EvaluationError}
use Rattle.cedar_extensions.specs.Table.{Table, as_table}
use Rattle.cedar_restricted_evaluation.specs.Evaluations.{HasFunctions, IsKnown, answer_in}
use Rattle.cedar_interpreter.specs.Meeting.{ValueAt}
use Rattle.cedar_interpreter.specs.declared.restricted.RestrictedEvaluator.{RestrictedEvaluator}

abbrev pub table_of : {F : Type 0} → (F → FunctionAnswers) → RestrictedEvaluator F → Table
table_of answers ev = as_table answers ev.extensions.now

-- no evaluation nests deeper
abbrev pub limit_of : {F : Type 0} → RestrictedEvaluator F → ℕ
limit_of ev = ev.depth

-- the value of a tree without unknowns is what it means, whatever is asked. Want of memory says nothing of that, and the limit
-- may be met only where the tree is higher.
abbrev pub MeansValue : Table → ℕ → Tree → Result Value EvaluationError → Type 0
MeansValue table depth t result =
    IsKnown table t → (facts : Facts) → HasFunctions table facts → (request : Request) →
    Gives (λ v. v) (depth < height t) result (meaning facts request t)

-- and always what partial evaluation answers where no unknown has a value
abbrev pub AnswersValue : Table → ℕ → Tree → Result Value EvaluationError → Type 0
AnswersValue table depth t result =
    (facts : Facts) → HasFunctions table facts →
    ValueAt (depth < height t) (answer_in table facts t) result
