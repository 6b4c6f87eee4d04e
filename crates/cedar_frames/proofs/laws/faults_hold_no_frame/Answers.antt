-- As faults that stay, with nothing left behind; and the one byte that shows too many is shorter than any frame.
use Rattle.cedar_frames.proofs.FrameLaws as laws
use Rattle.cedar_frames.proofs.laws.faults_hold_no_frame.Goals as goal

pub returns : goal.returns
returns c = laws.faults_hold_no_frame
