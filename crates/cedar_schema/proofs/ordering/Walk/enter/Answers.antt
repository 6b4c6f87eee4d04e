-- One more number is seen, and stands behind the path.
use Rattle.std.proofs.Common.{refl}
use Rattle.cedar_schema.proofs.Walking.{entered}
use Rattle.cedar_schema.proofs.ordering.Walk.enter.Goals as goal

pub returns-clause-walk : goal.returns-clause-walk
returns-clause-walk c =
    entered c.args.self.now c.requires.walk c.args.number c.requires.below _ c.push.new.self c.requires.leads refl c.in_ok-push.ensures.items
