-- The lemmas of Answering, by the laws of early answers.
use Rattle.cedar_evaluator.proofs.Answering.{responses_answer}
use Rattle.cedar_evaluator.proofs.laws.responses_answer_requests.Goals as goal

pub returns : goal.returns
returns c = responses_answer c.early_answers_are_fair.ensures c.early_answers_are_prompt.ensures c.early_kinds_are_settled.ensures c.answers_are_prompt.ensures
