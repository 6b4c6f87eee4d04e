use Rattle.std.proofs.Common.{take, string_bytes}
use Rattle.cedar_messages.specs.Faults.{Tells}
use Rattle.cedar_messages.specs.Telling.{TellsEach}
use Rattle.cedar_messages.proofs.faults.tell_all.Given as goal

abbrev pub invariant-loop-fault : goal.invariant-loop-fault
invariant-loop-fault l = TellsEach (Tells l.name) (take l.fault-index l.faults) (string_bytes l.told)
