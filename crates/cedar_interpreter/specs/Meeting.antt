-- What the code answers, against an answer of partial evaluation at given facts.
use Rattle.std.specs.Prelude.{◌≡◌, ◌⊎◌, ⊤, Bool, true, false, List, map, Result, Ok, Err}
use Rattle.std.specs.Global.{Vec}
use Rattle.std.specs.declared.alloc.Global.{Global}
use Rattle.std.specs.declared.rc.Rc.{Rc}
use Rattle.cedar_language.specs.Tree.{Boolean, Tree}
use Rattle.cedar_language.specs.Value.{Value, Plain, NonValue}
use Rattle.cedar_language.specs.Facts.{Facts}
use Rattle.cedar_partial_evaluation.specs.Alike.{gathered}
use Rattle.cedar_partial_evaluation.specs.Leaves.{is_left}
use Rattle.cedar_partial_evaluation.specs.Partial.{Answer, Evaluated, ResidualTree, Failed, SomeFailed, last_answer}
use Rattle.cedar_trees.specs.Bare.{bare}
use Rattle.cedar_trees.specs.declared.expr.Expr.{Expr}
use Rattle.cedar_restricted.specs.PartialValues.{partial_of}
use Rattle.cedar_restricted.specs.declared.partial_values.PartialValue.{PartialValue}
use Rattle.cedar_extensions.specs.Failures.{Failure, OfKind, LimitMet, MemoryRanOut, failure_of}
use Rattle.cedar_extensions.specs.Giving.{GivesBy}
use Rattle.cedar_extensions.specs.declared.evaluation_error.EvaluationError.{EvaluationError}
pub use Rattle.cedar_restricted_evaluation.specs.Evaluations.{part_answer}
use Rattle.cedar_interpreter.specs.Naming.{as_read}
use Rattle.cedar_interpreter.specs.declared.lazy.Tested.{Tested}
use Rattle.cedar_interpreter.specs.declared.lazy.Tested.TheVariants as tested

-- the limit of depth was met
abbrev pub IsLimit : {X : Type 0} → Result X EvaluationError → Type 0
IsLimit (Ok x) = ⊥
IsLimit (Err e) = failure_of e ≡ LimitMet

-- the answer b; the limit may be met where the evaluation is deep
abbrev pub MeetsAt : Type 0 → Answer → Result PartialValue EvaluationError → Type 0
MeetsAt deep b result = GivesBy (λ p. b ≡ part_answer (partial_of p)) (λ k. b ≡ Failed k) deep result

-- the same where what is left is read
abbrev pub ReadsAt : Type 0 → Answer → Result PartialValue EvaluationError → Type 0
ReadsAt deep b result = GivesBy (λ p. b ≡ as_read (part_answer (partial_of p))) (λ k. b ≡ Failed k) deep result

-- the value that the answer b is, its error, or `NonValue` where something is left
abbrev pub ValueAt : Type 0 → Answer → Result Value EvaluationError → Type 0
ValueAt deep b result =
    GivesBy (λ v. b ≡ Evaluated v) (λ k. (b ≡ Failed k) ⊎ ((k ≡ NonValue) × (is_left b ≡ true))) deep result

-- ---- answers one after another

-- all of these answers, or the first error among them
abbrev pub MeetEachAt : Facts → List Answer → Result (Vec PartialValue) EvaluationError → Type 0
MeetEachAt facts bs result = GivesBy (λ ps. bs ≡ map part_answer (map partial_of ps.items)) (λ k. gathered facts bs ≡ SomeFailed k) ⊤ result

-- ---- operands that are tested

-- a Boolean, what is left of one, or an error
abbrev pub tested_answer : Answer → Answer
tested_answer b = last_answer (λ r. r) b

abbrev pub IsTested : Answer → Tested → Type 0
IsTested c tested.No = c ≡ Evaluated (Plain (Boolean false))
IsTested c tested.Yes = c ≡ Evaluated (Plain (Boolean true))
IsTested c (tested.Open rest) = c ≡ ResidualTree (bare rest)

abbrev pub TestsAt : Answer → Result Tested EvaluationError → Type 0
TestsAt c result = GivesBy (IsTested c) (λ k. c ≡ Failed k) ⊤ result

-- ---- best effort

-- an operand in best effort never errs, the limit and want of memory aside
abbrev pub EffortAt : Tree → Result (Rc (Expr (Unit {0})) Global) EvaluationError → Type 0
EffortAt t result = GivesBy (λ e. bare e.value ≡ t) (λ k. ⊥) ⊤ result

-- these are no errors of an operand, and are handed on
abbrev pub is_passed_up : Failure → Bool
is_passed_up (OfKind k) = false
is_passed_up LimitMet = true
is_passed_up MemoryRanOut = true
