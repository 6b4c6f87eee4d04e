-- Frame by frame the two are the same, until the shorter list ends; what the longer one has more stands behind.
use Rattle.cedar_frames.proofs.FrameLaws as laws
use Rattle.cedar_frames.proofs.laws.frames_begin.Goals as goal

pub returns : goal.returns
returns c = laws.frames_begin
