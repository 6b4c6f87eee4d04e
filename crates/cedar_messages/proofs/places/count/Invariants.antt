use Rattle.std.proofs.Common.{◌≡◌, ◌+◌, ◌-◌, ◌*◌, length}
use Rattle.cedar_messages.specs.Places.{position_at, AreCounted}
use Rattle.cedar_messages.proofs.places.count.Given as goal

abbrev pub invariant-block : goal.invariant-block
invariant-block l = record {
  counted : AreCounted l.bytes l.counted.items;
  next : l.at ≡ position_at l.bytes l.byte;
  many : l.byte ≡ length l.counted.items * 256;
}

abbrev pub decreases-block : goal.decreases-block
decreases-block l = (length l.bytes + 256) - l.byte
