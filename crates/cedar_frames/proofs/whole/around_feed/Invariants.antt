use Rattle.std.proofs.Common.{◌≡◌, take, true}
use Rattle.cedar_frames.specs.Heads.{lacks}
use Rattle.cedar_frames.proofs.whole.around_feed.Given as goal

abbrev pub invariant-loop-at : goal.invariant-loop-at
invariant-loop-at l = lacks 10 (take l.at l.bytes) ≡ true
