-- What was added so far is on one line.
use Rattle.std.proofs.Common.{string_bytes}
use Rattle.cedar_messages.specs.Telling.{Adds, IsLine}
use Rattle.cedar_messages.proofs.telling.push_on_line.Given as goal

abbrev pub invariant-loop-c : goal.invariant-loop-c
invariant-loop-c l = Adds IsLine (string_bytes l.fn.told) (string_bytes l.told)
