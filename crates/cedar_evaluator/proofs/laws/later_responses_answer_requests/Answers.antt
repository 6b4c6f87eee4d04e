-- The lemmas of AnsweringAgain, by the laws of policies that are taken up again and of contexts that are told.
use Rattle.cedar_evaluator.proofs.AnsweringAgain.{later_responses_answer}
use Rattle.cedar_evaluator.proofs.laws.later_responses_answer_requests.Goals as goal

pub returns : goal.returns
returns c =
    later_responses_answer c.told_contexts_stay.ensures c.reauthorizing_is_fair.ensures c.reauthorizing_is_sharp.ensures c.errors_are_named.ensures
    c.reauthorizing_is_exact.ensures c.answers_are_prompt.ensures
