-- The first line is a head, and the bytes behind it hold the body and a line feed; else no frame stands there whole.
use Rattle.cedar_frames.proofs.WholeFrames.{none_in_line, none_by_head, none_if_long, none_if_cut, none_if_overrun, one_if_whole}
use Rattle.std.proofs.Common.{refl}
use Rattle.cedar_frames.proofs.whole.whole_frame.Goals as goal

pub returns-in_default-clause-none : goal.returns-in_default-clause-none
returns-in_default-clause-none c = none_in_line c.args.bytes.now c.in_default.ensures.none

pub returns-in-Bad-clause-none : goal.returns-in-Bad-clause-none
returns-in-Bad-clause-none c = none_by_head _ _ _ c.in-Some.ensures.found.0 c.in-Some.ensures.found.1 c.in-Some.ensures.found.2 c.in-Bad.ensures

pub returns-in-Long-clause-none : goal.returns-in-Long-clause-none
returns-in-Long-clause-none c = none_if_long _ _ _ c.in-Some.ensures.found.0 c.in-Some.ensures.found.2 c.in-Long.ensures

pub returns-then-left-size-clause-none : goal.returns-then-left-size-clause-none
returns-then-left-size-clause-none c =
    none_if_cut _ _ _ c.in-Some.ensures.found.0 c.in-Some.ensures.found.2 c.in-Opens.verb c.in-Opens.size c.in-Opens.ensures.0 c.in-Opens.ensures.1 c.if-left-size.true

pub returns-then-last-ne10-clause-none : goal.returns-then-last-ne10-clause-none
returns-then-last-ne10-clause-none c =
    none_if_overrun _ _ _ c.in-Some.ensures.found.0 c.in-Some.ensures.found.2 c.in-Opens.verb c.in-Opens.size c.in-Opens.ensures.0 c.in-Opens.ensures.1 _ c.if-left-size.false refl c.if-last-ne10.true

pub returns-clause-found : goal.returns-clause-found
returns-clause-found c =
    one_if_whole _ _ _ c.in-Some.ensures.found.0 c.in-Some.ensures.found.2 c.in-Opens.verb c.in-Opens.size c.in-Opens.ensures.0 c.in-Opens.ensures.1 c.if-left-size.false c.if-last-ne10.false
