-- What an evaluator of a request answers to a tree is fair and prompt.
use Rattle.std.proofs.Common.{◌≡◌, ◌∙◌, sym, subst}
use Rattle.std.specs.FinMap as finite
use Rattle.std.specs.Prelude.{⊤, Result, Ok, Err}
use Rattle.cedar_language.specs.Facts.{Facts}
use Rattle.cedar_language.specs.Tree.{Tree}
use Rattle.cedar_partial_evaluation.specs.Filling.{FilledIsMeant, AnswersAreFair, AnswersArePrompt}
use Rattle.cedar_partial_evaluation.specs.MadeAgain.{HoldsMade}
use Rattle.cedar_partial_evaluation.specs.Partial.{Answer, Failed, LeafAnswers, partial_in}
use Rattle.cedar_partial_evaluation.specs.Prompt.{IsPrompt}
use Rattle.cedar_partial_evaluation.specs.Question.{Question, held_of}
use Rattle.cedar_partial_evaluation.specs.ReadUnknowns.{read_unknowns}
use Rattle.cedar_policy_parts.specs.Bindings.{Bindings, binding_of}
use Rattle.cedar_extensions.specs.Failures.{failure_of}
use Rattle.cedar_extensions.specs.Giving.{GivesBy, fails_on}
use Rattle.cedar_extensions.specs.declared.evaluation_error.EvaluationError.{EvaluationError}
use Rattle.cedar_restricted.specs.PartialValues.{partial_of}
use Rattle.cedar_restricted.specs.declared.partial_values.PartialValue.{PartialValue}
use Rattle.cedar_restricted_evaluation.specs.Evaluations.{part_answer}
use Rattle.cedar_requests.specs.Holding.{RequestParts}
use Rattle.cedar_interpreter.specs.Naming.{as_read}
use Rattle.cedar_evaluator.specs.Asking.{untold, request_held}
use Rattle.cedar_evaluator.specs.Expressions.{AnswersTree, ResultAnswers, ExpressionsAnswerRequests}
use Rattle.cedar_evaluator.specs.Questions.{Asks}
use Rattle.cedar_evaluator.proofs.AskedSo.{asked_held, asked_accepted, extends_nothing, nothing_is_made}

module _ (fair : AnswersAreFair) (prompt : AnswersArePrompt) (meant : FilledIsMeant) (is_prompt : IsPrompt) (facts : Facts) (good : HoldsMade facts) (q : Question) (r : RequestParts) (asks : Asks facts q r)
    (slots : Bindings) (holds : LeafAnswers) (is : holds ≡ request_held (untold r) slots) where
  of_question : (t : Tree) → AnswersTree facts q slots t (partial_in facts (held_of facts q (binding_of slots) finite.empty) t)
  of_question t = record {
    fair = λ filling known fills gives.
        sym (fair facts good q (binding_of slots) finite.empty filling known (extends_nothing filling) (nothing_is_made facts) fills t gives)
        ∙ meant facts q (binding_of slots) filling known fills t gives;
    prompt = prompt facts good q (binding_of slots) finite.empty (nothing_is_made facts) (asked_accepted facts q r asks is_prompt good) t;
  }

  answers_tree : (t : Tree) → AnswersTree facts q slots t (partial_in facts holds t)
  answers_tree t =
      subst (λ (h : LeafAnswers). AnswersTree facts q slots t (partial_in facts h t)) (sym (is ∙ asked_held facts q r asks slots)) (of_question t)

  pub result_answers : (t : Tree) (seen : Answer → Answer) (result : Result PartialValue EvaluationError) →
      GivesBy (λ p. partial_in facts holds t ≡ seen (part_answer (partial_of p))) (λ k. partial_in facts holds t ≡ Failed k) ⊤ result → ResultAnswers facts q slots t seen result
  result_answers t seen (Ok p) h = subst (λ (b : Answer). AnswersTree facts q slots t b) h (answers_tree t)
  result_answers t seen (Err e) h =
      fails_on (failure_of e) (λ k s. subst (λ (b : Answer). AnswersTree facts q slots t b) s (answers_tree t)) (λ d. d) h

pub expressions_answer : AnswersAreFair → AnswersArePrompt → FilledIsMeant → IsPrompt → ExpressionsAnswerRequests
expressions_answer fair prompt meant is_prompt = λ facts good q r asks slots holds is t result. record {
  found = result_answers fair prompt meant is_prompt facts good q r asks slots holds is t (λ b. b) result;
  read = result_answers fair prompt meant is_prompt facts good q r asks slots holds is (read_unknowns t) as_read result;
}
