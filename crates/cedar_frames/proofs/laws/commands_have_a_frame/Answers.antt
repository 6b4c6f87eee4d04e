-- A length has one numeral, so a command is spelled in one way, and that is short enough for a head.
use Rattle.cedar_frames.proofs.Spelling as spelling
use Rattle.cedar_frames.proofs.laws.commands_have_a_frame.Goals as goal

pub returns : goal.returns
returns c = spelling.commands_have_a_frame
