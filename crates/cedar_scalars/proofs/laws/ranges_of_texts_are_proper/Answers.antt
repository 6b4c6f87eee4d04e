use Rattle.cedar_scalars.proofs.ProperRanges.{texts_are_proper}
use Rattle.cedar_scalars.proofs.laws.ranges_of_texts_are_proper.Goals as goal

pub returns : goal.returns
returns c = texts_are_proper
