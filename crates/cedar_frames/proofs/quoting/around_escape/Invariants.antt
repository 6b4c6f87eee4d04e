use Rattle.std.proofs.Common.{◌≡◌, take}
use Rattle.cedar_frames.specs.Quoting.{escaped_all}
use Rattle.cedar_frames.proofs.quoting.around_escape.Given as goal

abbrev pub invariant-loop-at : goal.invariant-loop-at
invariant-loop-at l = escaped_all (take l.at l.bytes) ≡ take l.at l.bytes
