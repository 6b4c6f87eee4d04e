-- A union lies within a set where both parts do.
use Rattle.cedar_entities.specs.Data.{ancestors_of}
use Rattle.cedar_entities.proofs.UidLemmas.{shares_both, shares_none}
use Rattle.cedar_entities.proofs.entity.shares_ancestors.Goals as goal

pub returns-then-are_ancestors : goal.returns-then-are_ancestors
returns-then-are_ancestors c =
    rw (← c.entity.view_is) (shares_both c.entity.inside.parents c.entity.inside.indirect_ancestors (ancestors_of c.args.other.now) c.are_ancestors.result c.are_ancestors-then-are_ancestors.result c.are_ancestors.ensures c.if-are_ancestors.true c.are_ancestors-then-are_ancestors.ensures)

pub returns-else-are_ancestors : goal.returns-else-are_ancestors
returns-else-are_ancestors c =
    rw (← c.entity.view_is) (shares_none c.entity.inside.parents c.entity.inside.indirect_ancestors (ancestors_of c.args.other.now) c.are_ancestors.result c.are_ancestors.ensures c.if-are_ancestors.false)
