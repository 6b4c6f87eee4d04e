-- What the evaluation of a restricted expression gives, against the meaning of its tree, and against partial evaluation.
use Rattle.std.specs.Prelude.{◌≡◌, ◌<◌, ⊤, ℕ, Bool, true, false, ◌&&◌, Option, Some, None, if◌then◌else◌, Result}
use Rattle.std.specs.FinMap as finite
use Rattle.either.specs.declared.Either.{Either}
use Rattle.either.specs.declared.Either.TheVariants.{Left, Right}
use Rattle.cedar_language.specs.Uid.{Text}
use Rattle.cedar_language.specs.Tree.{String, Operator, Call, Tree, Unknown, Apply, Trees, no_trees, a_tree}
use Rattle.cedar_language.specs.Value.{Value, Plain, Values, no_values, a_value, Outcome, Gives, Fails}
use Rattle.cedar_language.specs.Facts.{Facts}
use Rattle.cedar_language.specs.Height.{height}
use Rattle.cedar_language.specs.Meaning.{Request, meaning}
use Rattle.cedar_language.specs.Restricted.{is_restricted}
use Rattle.cedar_partial_evaluation.specs.Partial as partial
use Rattle.cedar_partial_evaluation.specs.Partial.{Answer, Evaluated, ResidualTree, Failed, AllEvaluated, LeafAnswers, and_next, apply_answer, partial_in}
use Rattle.cedar_partial_evaluation.specs.Question.{held_names}
use Rattle.cedar_grammar.specs.UnknownCalls.{named, holds_call}
use Rattle.cedar_grammar.specs.Functions.{is_the_unknown}
use Rattle.cedar_extensions.specs.Giving.{GivesBy}
use Rattle.cedar_extensions.specs.declared.evaluation_error.EvaluationError.{EvaluationError}
pub use Rattle.cedar_extensions.specs.Table.{Table, HasFunctions}
use Rattle.cedar_restricted.specs.Expressing.{is_ground}
use Rattle.cedar_restricted.specs.PartialValues.{partial_of}
use Rattle.cedar_restricted.specs.declared.partial_values.PartialValue.{PartialValue}

-- ---- where nothing is unknown

-- no unknown stands in the tree, nor a call that names one
abbrev pub IsKnown : Table → Tree → Type 0
IsKnown table t = (is_ground t ≡ true) × ((table.has_unknown && holds_call t) ≡ false)

-- a value is what is meant; no residual is
abbrev pub IsMeant : Outcome → Either Value Tree → Type 0
IsMeant o (Left v) = o ≡ Gives v
IsMeant o (Right r) = ⊥

-- what is answered of a tree without unknowns is what it means, whatever is asked. Want of memory says nothing of that, and
-- the limit may be met only where the tree is higher.
abbrev pub MeansKnown : Table → ℕ → Tree → Result PartialValue EvaluationError → Type 0
MeansKnown table depth t result =
    IsKnown table t → (facts : Facts) → HasFunctions table facts → (request : Request) →
    GivesBy (λ p. IsMeant (meaning facts request t) (partial_of p)) (λ k. meaning facts request t ≡ Fails k) (depth < height t) result

-- ---- where no unknown has a value

abbrev pub nothing_told : LeafAnswers
nothing_told = held_names finite.empty

-- the one text that a function is called with
abbrev pub one_text : Values → Option Text
one_text (a_value (Plain (String s)) no_values) = Some s
one_text vs = None

-- where the table has the function `unknown`, a call of it on one text is the unknown of this name
abbrev pub name_called : Table → Operator → partial.Answers → Option Text
name_called table (Call f) (AllEvaluated vs) = if table.has_unknown && is_the_unknown f then one_text vs else None
name_called table op parts = None

abbrev pub named_or : Option Text → Answer → Answer
named_or (Some n) a = ResidualTree (Unknown n None)
named_or None a = a

-- a tree is answered as partial evaluation answers it, but that such a call is an unknown, wherever its text comes from
abbrev mutual
  pub answer_in : Table → Facts → Tree → Answer
  answer_in table facts (Apply op ts) =
      named_or (name_called table op (answers_in table facts ts)) (apply_answer facts nothing_told op (answers_in table facts ts))
  answer_in table facts t = partial_in facts nothing_told t

  pub answers_in : Table → Facts → Trees → partial.Answers
  answers_in table facts no_trees = AllEvaluated no_values
  answers_in table facts (a_tree t ts) = and_next facts (answer_in table facts t) (answers_in table facts ts)

-- where the table has that function, its calls on one literal text read as the unknowns of these names
abbrev pub named_by : Bool → Tree → Tree
named_by true t = named t
named_by false t = t

-- no other call of it stands in the tree, so that each name is one that is written: then the tree, its names read, is answered
-- as partial evaluation answers it
abbrev pub NamesAreWritten : Table → Tree → Type 0
NamesAreWritten table t = (table.has_unknown && holds_call (named t)) ≡ false

abbrev pub WrittenNamesAreRead : Type 0
WrittenNamesAreRead =
    (table : Table) (facts : Facts) (t : Tree) → is_restricted t ≡ true → NamesAreWritten table t →
    answer_in table facts t ≡ partial_in facts nothing_told (named_by table.has_unknown t)

-- a value, or what is left, as an answer
abbrev pub part_answer : Either Value Tree → Answer
part_answer (Left v) = Evaluated v
part_answer (Right r) = ResidualTree r

-- the same of every tree, against partial evaluation
abbrev pub Answers : Table → ℕ → Tree → Result PartialValue EvaluationError → Type 0
Answers table depth t result =
    (facts : Facts) → HasFunctions table facts →
    GivesBy (λ p. answer_in table facts t ≡ part_answer (partial_of p)) (λ k. answer_in table facts t ≡ Failed k) (depth < height t) result

-- what is left is restricted, and some unknown stands in it
abbrev pub IsLeft : Either Value Tree → Type 0
IsLeft (Left v) = ⊤
IsLeft (Right r) = (is_restricted r ≡ true) × (is_ground r ≡ false)
