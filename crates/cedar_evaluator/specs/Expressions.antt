-- What an evaluator of a request answers to a tree, against the question that the request asks.
-- (Cedar language reference, "Partial evaluation".)
use Rattle.std.specs.Prelude.{◌≡◌, ⊤, Result}
use Rattle.std.specs.FinMap as finite
use Rattle.cedar_language.specs.Authorization.{Known}
use Rattle.cedar_language.specs.Facts.{Facts}
use Rattle.cedar_language.specs.Meaning.{meaning}
use Rattle.cedar_language.specs.Tree.{Tree}
use Rattle.cedar_partial_evaluation.specs.Fair.{read}
use Rattle.cedar_partial_evaluation.specs.Filling.{GivesEach, IsFilling, request_filled, filled, ErrsEverywhere}
use Rattle.cedar_partial_evaluation.specs.MadeAgain.{HoldsMade}
use Rattle.cedar_partial_evaluation.specs.Partial.{Answer, Failed, LeafAnswers, partial_in}
use Rattle.cedar_partial_evaluation.specs.Prompt.{Meets, ErrsAs}
use Rattle.cedar_partial_evaluation.specs.Question.{Question, Told, settled_of}
use Rattle.cedar_partial_evaluation.specs.ReadUnknowns.{read_unknowns}
use Rattle.cedar_partial_evaluation.specs.Settling.{kindless, settled_in}
use Rattle.cedar_policy_parts.specs.Bindings.{Bindings, binding_of}
use Rattle.cedar_extensions.specs.Giving.{GivesBy}
use Rattle.cedar_extensions.specs.declared.evaluation_error.EvaluationError.{EvaluationError}
use Rattle.cedar_restricted.specs.PartialValues.{partial_of}
use Rattle.cedar_restricted.specs.declared.partial_values.PartialValue.{PartialValue}
use Rattle.cedar_restricted_evaluation.specs.Evaluations.{part_answer}
use Rattle.cedar_requests.specs.Holding.{RequestParts}
use Rattle.cedar_interpreter.specs.Meeting.{MeetsAt, ReadsAt}
use Rattle.cedar_interpreter.specs.Naming.{as_read}
use Rattle.cedar_evaluator.specs.Asking.{untold, request_held}
use Rattle.cedar_evaluator.specs.Questions.{Asks}

module _ (facts : Facts) (q : Question) (slots : Bindings) (t : Tree) where
  -- Under each filling the answer means what the tree means, kinds of errors aside; and it is a result to which the tree settles, where
  -- there is one.
  pub record AnswersTree (b : Answer) : Type 0 where
    pub fair : (filling : Told) (known : Known) → IsFilling facts q filling known → GivesEach filling t →
        read facts (filled facts q (binding_of slots) filling) b ≡ kindless (meaning facts (request_filled known (binding_of slots) filling) t)
    pub prompt :
        Meets (ErrsAs facts (settled_of facts q (binding_of slots) finite.empty) (ErrsEverywhere facts q (binding_of slots) finite.empty) t)
        (settled_in facts (settled_of facts q (binding_of slots) finite.empty) t) b

  -- an evaluation gives such an answer, what is left being seen so; a limit that was met, and want of memory, say nothing
  abbrev pub ResultAnswers : (Answer → Answer) → Result PartialValue EvaluationError → Type 0
  ResultAnswers seen result = GivesBy (λ p. AnswersTree (seen (part_answer (partial_of p)))) (λ k. AnswersTree (Failed k)) ⊤ result

-- What an evaluation of an expression answers, where no call names an unknown, and where each is read as the unknown that it names.
pub record ExpressionAnswers (facts : Facts) (q : Question) (slots : Bindings) (holds : LeafAnswers) (t : Tree) (result : Result PartialValue EvaluationError) : Type 0 where
  pub found : MeetsAt ⊤ (partial_in facts holds t) result → ResultAnswers facts q slots t (λ b. b) result
  pub read : ReadsAt ⊤ (partial_in facts holds (read_unknowns t)) result → ResultAnswers facts q slots (read_unknowns t) as_read result

-- So the contract of `partial_interpret` says this of each question that a request asks; what its evaluator holds is what the request
-- holds.
abbrev pub ExpressionsAnswerRequests : Type 0
ExpressionsAnswerRequests =
    (facts : Facts) → HoldsMade facts → (q : Question) (r : RequestParts) → Asks facts q r →
    (slots : Bindings) (holds : LeafAnswers) → holds ≡ request_held (untold r) slots →
    (t : Tree) (result : Result PartialValue EvaluationError) → ExpressionAnswers facts q slots holds t result
