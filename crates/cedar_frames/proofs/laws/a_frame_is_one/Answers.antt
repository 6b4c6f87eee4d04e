-- The first line feed ends the head line, and the head says where the body ends.
use Rattle.cedar_frames.proofs.FrameLaws as laws
use Rattle.cedar_frames.proofs.laws.a_frame_is_one.Goals as goal

pub returns : goal.returns
returns c = laws.a_frame_is_one
