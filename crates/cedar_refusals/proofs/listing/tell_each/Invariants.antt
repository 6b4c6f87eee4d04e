use Rattle.std.proofs.Common.{take, string_bytes}
use Rattle.cedar_refusals.specs.Checks.{TellsPolicy}
use Rattle.cedar_messages.specs.Telling.{TellsEach}
use Rattle.cedar_refusals.proofs.listing.tell_each.Given as goal

abbrev pub invariant-loop-id : goal.invariant-loop-id
invariant-loop-id l = TellsEach (TellsPolicy l.name) (take l.id-index l.ids) (string_bytes l.told)
