-- What stands behind moves up by one position.
use Rattle.std.proofs.Common.{arith}
use Rattle.cedar_policy_set.proofs.Telling.{told_without}
use Rattle.cedar_policy_set.proofs.places.Places.take_out.Goals as goal

pub returns : goal.returns
returns c = λ ids told at.
    let within = c.requires.within in
    told_without c.args.self.now _ ids told c.args.id.now c.args.at at c.in_ok-take_out.ensures.closed (omega arith) c.remove.ensures.updates.0
