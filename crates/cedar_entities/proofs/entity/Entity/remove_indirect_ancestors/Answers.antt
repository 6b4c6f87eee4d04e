-- The uids are taken from one list.
use Rattle.std.proofs.Common.{ap, ◌∙◌}
use Rattle.std.specs.FinSet as set
use Rattle.cedar_entities.specs.Data.{EntityData}
use Rattle.cedar_entities.proofs.UidLemmas.{indirect_are}
use Rattle.cedar_entities.proofs.entity.Entity.remove_indirect_ancestors.Goals as goal

pub returns : goal.returns
returns c =
    indirect_are _ c.args.self.now c.subtract.new.self (set.difference c.args.self.now.indirect c.args.uids.now) c.self.view_is
    (c.subtract.ensures ∙ ap (λ (e : EntityData). set.difference e.indirect c.args.uids.now) c.self.view_is)
