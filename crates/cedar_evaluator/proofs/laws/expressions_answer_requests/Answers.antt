-- The lemmas of Expressions, by the laws of a question's answers.
use Rattle.cedar_evaluator.proofs.Expressions.{expressions_answer}
use Rattle.cedar_evaluator.proofs.laws.expressions_answer_requests.Goals as goal

pub returns : goal.returns
returns c = expressions_answer c.question_answers_are_fair.ensures c.question_answers_are_prompt.ensures c.filled_is_meant.ensures c.answers_are_prompt.ensures
