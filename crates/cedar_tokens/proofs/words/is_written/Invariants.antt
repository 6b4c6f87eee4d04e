use Rattle.std.proofs.Common.{◌≡◌, take}
use Rattle.cedar_tokens.proofs.words.is_written.Given as goal

abbrev pub invariant-loop-at : goal.invariant-loop-at
invariant-loop-at l = take l.at l.bytes ≡ take l.at l.expected
