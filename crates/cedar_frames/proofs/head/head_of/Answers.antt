-- No verb's name holds a space, so that of a head stands before the first one.
use Rattle.cedar_frames.proofs.Heads.{no_head}
use Rattle.cedar_frames.proofs.head.head_of.Goals as goal

pub returns-in_default-named : goal.returns-in_default-named
returns-in_default-named c = rw c.in-Some.ensures.found.0 (no_head _ _ c.in-Some.ensures.found.1 c.in_default-named.ensures.none)
