use Rattle.cedar_scalars.proofs.RangeTexts.{range_back}
use Rattle.cedar_scalars.proofs.laws.ranges_are_read_back.Goals as goal

pub returns : goal.returns
returns c = range_back
