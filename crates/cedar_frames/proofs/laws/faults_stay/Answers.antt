-- A frame has a head, a fit length, its whole body and a line feed, and each fault shows one of these to be wanting.
use Rattle.cedar_frames.proofs.FrameLaws as laws
use Rattle.cedar_frames.proofs.laws.faults_stay.Goals as goal

pub returns : goal.returns
returns c = laws.faults_stay
