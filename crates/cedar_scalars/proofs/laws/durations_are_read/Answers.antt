use Rattle.cedar_scalars.proofs.DurationTexts.{durations_read}
use Rattle.cedar_scalars.proofs.laws.durations_are_read.Goals as goal

pub returns : goal.returns
returns c = durations_read
