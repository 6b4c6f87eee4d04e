-- One uid is inserted here and removed there.
use Rattle.std.specs.FinSet as set
use Rattle.std.proofs.Common.{◌∙◌, ap}
use Rattle.cedar_entities.proofs.UidLemmas.{both_are}
use Rattle.cedar_entities.proofs.entity.Entity.add_parent.Goals as goal

pub returns-clause-added : goal.returns-clause-added
returns-clause-added c =
    both_are _ c.args.self.now (λ s. set.insert s c.args.uid) (λ s. set.remove s c.args.uid) c.insert.new.self c.remove.new.self c.self.view_is
    (c.in_ok-insert.ensures.added ∙ ap (λ u. set.insert c.self.inside.parents u) c.in_ok-clone.ensures.cases)
    c.remove.ensures
