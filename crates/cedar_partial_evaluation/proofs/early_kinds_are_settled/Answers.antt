-- A prompt answer to what settles to an error is that error, with a kind to which it settles.
use Rattle.cedar_partial_evaluation.proofs.Early.{early_kinds_are_settled as law}
use Rattle.cedar_partial_evaluation.proofs.early_kinds_are_settled.Goals as goal

pub returns : goal.returns
returns c = law
