use Rattle.std.proofs.Common.{take, string_bytes}
use Rattle.cedar_authoring.specs.Covering.{TellsCovered}
use Rattle.cedar_messages.specs.Telling.{TellsEach}
use Rattle.cedar_authoring.proofs.covering.Coverage.tell.Given as goal

abbrev pub invariant-loop-seen : goal.invariant-loop-seen
invariant-loop-seen l = TellsEach TellsCovered (take l.seen-index l.self.seen.items) (string_bytes l.told)
