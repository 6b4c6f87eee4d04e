-- Each two kinds of faults are told apart by the first line feed, the length that the head says, or the input's end.
use Rattle.cedar_frames.proofs.FrameLaws as laws
use Rattle.cedar_frames.proofs.laws.faults_are_one.Goals as goal

pub returns : goal.returns
returns c = laws.faults_are_one
