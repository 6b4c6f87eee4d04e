-- What a context is made of a record: what its evaluation gives, against the meaning of its tree and against partial evaluation.
use Rattle.std.specs.Prelude.{◌≡◌, ◌<◌, ◌≤◌, ⊤, ℕ, Bool, true, false, Result, Ok, Err, IfOk, codes}
use Rattle.std.specs.Rc.{rc_str_bytes}
use Rattle.either.specs.declared.Either.{Either}
use Rattle.either.specs.declared.Either.TheVariants.{Left, Right}
use Rattle.cedar_language.specs.Uid.{Text}
use Rattle.cedar_language.specs.Tree.{Tree}
use Rattle.cedar_language.specs.Value.{Value, RecordOf, Fails}
use Rattle.cedar_language.specs.Facts.{Facts}
use Rattle.cedar_language.specs.Height.{height}
use Rattle.cedar_language.specs.Meaning.{Request, meaning}
use Rattle.cedar_partial_evaluation.specs.Partial.{Failed}
use Rattle.cedar_trees.specs.Bare.{bare}
use Rattle.cedar_trees.specs.declared.errors.ExpressionConstructionError.{ExpressionConstructionError}
use Rattle.cedar_trees.specs.declared.errors.ExpressionConstructionError.TheVariants.{DuplicateKey, Memory}
use Rattle.cedar_extensions.specs.Giving.{GivesBy}
use Rattle.cedar_extensions.specs.declared.evaluation_error.EvaluationError.{EvaluationError}
use Rattle.cedar_extensions.specs.Table.{Table}
use Rattle.cedar_restricted_evaluation.specs.Evaluations.{HasFunctions, IsKnown, IsMeant, answer_in, part_answer}
use Rattle.cedar_requests.specs.Contexts.{context_part, is_record}
use Rattle.cedar_requests.specs.declared.contexts.Context.{Context}
use Rattle.cedar_requests.specs.declared.errors.ContextCreationError.{ContextCreationError}
use Rattle.cedar_requests.specs.declared.errors.ContextCreationError.TheVariants as refusal

abbrev pub is_record_value : Value → Bool
is_record_value (RecordOf ks vs) = true
is_record_value v = false

abbrev pub is_record_part : Either Value Tree → Bool
is_record_part (Left v) = is_record_value v
is_record_part (Right t) = is_record t

-- where nothing in the tree is unknown, it is what the tree means, whatever is asked. Want of memory says nothing of that, and
-- the limit may be met only where the tree is higher.
abbrev pub MeansContext : Table → ℕ → Tree → Result Context EvaluationError → Type 0
MeansContext table depth t result =
    IsKnown table t → (facts : Facts) → HasFunctions table facts → (request : Request) →
    GivesBy (λ c. IsMeant (meaning facts request t) (context_part c)) (λ k. meaning facts request t ≡ Fails k) (depth < height t) result

-- and always what partial evaluation answers where no unknown has a value
abbrev pub AnswersContext : Table → ℕ → Tree → Result Context EvaluationError → Type 0
AnswersContext table depth t result =
    (facts : Facts) → HasFunctions table facts →
    GivesBy (λ c. answer_in table facts t ≡ part_answer (context_part c)) (λ k. answer_in table facts t ≡ Failed k) (depth < height t) result

-- what is made holds, or the error of the evaluation; the other errors say nothing
abbrev pub OnEvaluation : (Result Context EvaluationError → Type 0) → Result Context ContextCreationError → Type 0
OnEvaluation P (Ok c) = P (Ok c)
OnEvaluation P (Err (refusal.Evaluation e)) = P (Err e)
OnEvaluation P (Err (refusal.NotARecord e)) = ⊤
OnEvaluation P (Err (refusal.ExpressionConstruction e)) = ⊤
OnEvaluation P (Err (refusal.Memory e)) = ⊤

-- a tree is refused, with itself, exactly where it isn't written as a record
abbrev pub IsRefusedUnlessRecord : Tree → Result Context ContextCreationError → Type 0
IsRefusedUnlessRecord t (Ok c) = is_record t ≡ true
IsRefusedUnlessRecord t (Err (refusal.NotARecord e)) = (is_record t ≡ false) × (bare e.expr ≡ t)
IsRefusedUnlessRecord t (Err (refusal.Evaluation e)) = is_record t ≡ true
IsRefusedUnlessRecord t (Err (refusal.ExpressionConstruction e)) = ⊥
IsRefusedUnlessRecord t (Err (refusal.Memory e)) = ⊤

pub record Creates (table : Table) (depth : ℕ) (t : Tree) (result : Result Context ContextCreationError) : Type 0 where
  pub written : IsRefusedUnlessRecord t result
  pub meaning : OnEvaluation (MeansContext table depth t) result
  pub answer : OnEvaluation (AnswersContext table depth t) result
  pub limit : IfOk result (λ c. height t ≤ depth)

-- the record of entries is made first, and is refused for a key that stands twice
abbrev pub CreatesOf : Table → ℕ → Result Tree Text → Result Context ContextCreationError → Type 0
CreatesOf table depth (Ok t) result = Creates table depth t result
CreatesOf table depth (Err k) (Ok c) = ⊥
CreatesOf table depth (Err k) (Err (refusal.ExpressionConstruction (DuplicateKey e))) = (rc_str_bytes e.key ≡ k) × (e.context.now ≡ codes "in context")
CreatesOf table depth (Err k) (Err (refusal.Memory e)) = ⊤
CreatesOf table depth (Err k) (Err e) = ⊥

-- the error of a key that stands twice says that it does so in a context; want of memory stays what it is
abbrev pub DuplicateInContext : ExpressionConstructionError → ContextCreationError → Type 0
DuplicateInContext (DuplicateKey d) (refusal.ExpressionConstruction (DuplicateKey e)) = (e.key ≡ d.key) × (e.context.now ≡ codes "in context")
DuplicateInContext (Memory m) (refusal.Memory e) = ⊤
DuplicateInContext error made = ⊥
