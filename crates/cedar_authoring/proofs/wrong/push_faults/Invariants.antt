use Rattle.std.proofs.Common.{string_bytes}
use Rattle.cedar_messages.specs.Telling.{Adds, AreBelow}
use Rattle.cedar_authoring.proofs.wrong.push_faults.Given as goal

abbrev pub invariant-loop-line : goal.invariant-loop-line
invariant-loop-line g l = Adds AreBelow (string_bytes l.fn.told) (string_bytes l.told)
