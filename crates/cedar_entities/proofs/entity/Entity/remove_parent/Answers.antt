-- One uid is removed.
use Rattle.std.specs.FinSet as set
use Rattle.cedar_entities.proofs.UidLemmas.{parents_are}
use Rattle.cedar_entities.proofs.entity.Entity.remove_parent.Goals as goal

pub returns : goal.returns
returns c = parents_are _ c.args.self.now (λ s. set.remove s c.args.uid.now) c.remove.new.self c.self.view_is c.remove.ensures
