-- The bytes so far stand as they are.
use Rattle.std.proofs.Common.{◌≡◌, take}
use Rattle.cedar_frames.specs.Quoting.{escaped_all}
use Rattle.cedar_replies.proofs.gathering.is_plain.Given as goal

abbrev pub invariant-loop-byte : goal.invariant-loop-byte
invariant-loop-byte l = escaped_all (take l.byte-index l.byte-items) ≡ take l.byte-index l.byte-items
