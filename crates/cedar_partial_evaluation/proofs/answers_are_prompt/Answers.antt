-- Each leaf shows what is settled of it, and each construct answers the result to which its parts settle it.
use Rattle.cedar_partial_evaluation.proofs.Prompt.{is_prompt as law}
use Rattle.cedar_partial_evaluation.proofs.answers_are_prompt.Goals as goal

pub returns : goal.returns
returns c = law
