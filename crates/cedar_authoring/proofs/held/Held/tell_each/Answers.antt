-- Of one id more it is told what is held under it (Told).
use Rattle.std.proofs.Common.{string_bytes, arith}
use Rattle.cedar_held.specs.PolicyWorlds.{policies_in}
use Rattle.cedar_messages.proofs.Told.{Adds-more}
use Rattle.cedar_authoring.specs.Pasts.{TellsOneOf}
use Rattle.cedar_authoring.proofs.held.Held.tell_each.Goals as goal

pub loop-id-preserved : goal.loop-id-preserved
loop-id-preserved c =
    let past = c.args.past.now in
    let policies = policies_in c.args.self.now.policies.now in
    let response = c.args.self.now.standings.response.now in
    let name = c.origin_of-origin.result.name.now in
    let one = c.in_ok-tell_one.ensures in
    Adds-more (TellsOneOf past policies response) c.args.ids.now c.loop-id.id-index c.id-item.result (string_bytes c.args.told.now) (string_bytes c.loop-id.told)
    (string_bytes c.tell_one.new.told) (omega arith) c.id-item.is c.loop-id.invariant (one.0, (name, c.origin_of-origin.ensures, one.1), one.2)
