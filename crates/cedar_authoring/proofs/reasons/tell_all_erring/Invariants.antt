use Rattle.std.proofs.Common.{string_bytes}
use Rattle.cedar_messages.specs.Telling.{Adds, AreBelow}
use Rattle.cedar_authoring.proofs.reasons.tell_all_erring.Given as goal

abbrev pub invariant-loop-id : goal.invariant-loop-id
invariant-loop-id g l = Adds AreBelow (string_bytes l.fn.told) (string_bytes l.told)
