-- Sets that lie within one another are one.
use Rattle.cedar_entities.specs.Data.{ancestors_of}
use Rattle.cedar_entities.proofs.UidLemmas.{same_both}
use Rattle.cedar_entities.proofs.entity.have_same_ancestors.Goals as goal

pub returns-then-shares_ancestors : goal.returns-then-shares_ancestors
returns-then-shares_ancestors c =
    same_both (ancestors_of c.args.a.now) (ancestors_of c.args.b.now) c.shares_ancestors.result c.shares_ancestors-then-shares_ancestors.result c.shares_ancestors.ensures c.if-shares_ancestors.true c.shares_ancestors-then-shares_ancestors.ensures
