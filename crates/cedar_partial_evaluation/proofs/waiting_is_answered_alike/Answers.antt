-- An open policy is still open, and any other counts as it did.
use Rattle.cedar_partial_evaluation.proofs.Waiting.{waiting_is_answered_alike as law}
use Rattle.cedar_partial_evaluation.proofs.waiting_is_answered_alike.Goals as goal

pub returns : goal.returns
returns c = law
