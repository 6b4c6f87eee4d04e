-- Reading makes no literal, so a call that stays one stays one again; and data is literals, names and operators alone.
use Rattle.cedar_partial_evaluation.proofs.ReadUnknowns.{unknowns_are_read as law}
use Rattle.cedar_partial_evaluation.proofs.unknowns_are_read.Goals as goal

pub returns : goal.returns
returns c = law
