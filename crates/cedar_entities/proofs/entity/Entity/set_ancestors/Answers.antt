-- Those that aren't parents are kept beside them.
use Rattle.std.proofs.Common.{ap, ◌∙◌}
use Rattle.std.specs.FinSet as set
use Rattle.cedar_entities.specs.Data.{EntityData}
use Rattle.cedar_entities.proofs.UidLemmas.{indirect_are}
use Rattle.cedar_entities.proofs.entity.Entity.set_ancestors.Goals as goal

pub returns : goal.returns
returns c =
    indirect_are _ c.args.self.now c.subtract.new.self (set.difference c.args.uids c.args.self.now.parents) c.self.view_is
    (c.subtract.ensures ∙ ap (λ (e : EntityData). set.difference c.args.uids e.parents) c.self.view_is)
