use Rattle.std.proofs.Common.{◌≡◌, ◌+◌, ◌-◌, ◌≤◌, ◌⊎◌, take}
use Rattle.cedar_messages.specs.Places.{line_feeds, last_line, characters}
use Rattle.cedar_messages.proofs.places.counted_on.Given as goal

abbrev pub invariant-byte : goal.invariant-byte
invariant-byte l = record {
  line : l.line ≡ 1 + line_feeds (take l.byte l.bytes);
  column : l.column ≡ 1 + characters (last_line (take l.byte l.bytes));
  begun : l.fn.from ≤ l.byte;
  within : (l.byte ≡ l.fn.from) ⊎ (l.byte ≤ l.end);
}

abbrev pub decreases-byte : goal.decreases-byte
decreases-byte l = l.end - l.byte
