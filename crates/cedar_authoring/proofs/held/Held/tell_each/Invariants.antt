use Rattle.std.proofs.Common.{take, string_bytes}
use Rattle.cedar_held.specs.PolicyWorlds.{policies_in}
use Rattle.cedar_messages.specs.Telling.{Adds, TellsEach}
use Rattle.cedar_authoring.specs.Pasts.{TellsOneOf}
use Rattle.cedar_authoring.proofs.held.Held.tell_each.Given as goal

abbrev pub invariant-loop-id : goal.invariant-loop-id
invariant-loop-id l =
    Adds (TellsEach (TellsOneOf l.past (policies_in l.self.policies.now) l.self.standings.response.now) (take l.id-index l.ids)) (string_bytes l.fn.told) (string_bytes l.told)
