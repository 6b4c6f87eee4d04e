-- The first frames of both lists are the same and leave the same bytes; and so on with their rests.
use Rattle.cedar_frames.proofs.FrameLaws as laws
use Rattle.cedar_frames.proofs.laws.frames_are_one.Goals as goal

pub returns : goal.returns
returns c = laws.frames_are_one
