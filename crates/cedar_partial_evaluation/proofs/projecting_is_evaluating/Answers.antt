-- A projectable tree is leaves, sets and records, which evaluation leaves as projecting does.
use Rattle.cedar_partial_evaluation.proofs.Alike.{projecting_is_evaluating as law}
use Rattle.cedar_partial_evaluation.proofs.projecting_is_evaluating.Goals as goal

pub returns : goal.returns
returns c = law
