-- One uid is removed.
use Rattle.std.specs.FinSet as set
use Rattle.std.proofs.Common.{ap, ◌∙◌}
use Rattle.cedar_entities.specs.Data.{EntityData}
use Rattle.cedar_entities.proofs.UidLemmas.{indirect_are}
use Rattle.cedar_entities.proofs.entity.Entity.remove_indirect_ancestor.Goals as goal

pub returns : goal.returns
returns c =
    indirect_are _ c.args.self.now c.remove.new.self (set.remove c.args.self.now.indirect c.args.uid.now) c.self.view_is
    (c.remove.ensures ∙ ap (λ (e : EntityData). set.remove e.indirect c.args.uid.now) c.self.view_is)
