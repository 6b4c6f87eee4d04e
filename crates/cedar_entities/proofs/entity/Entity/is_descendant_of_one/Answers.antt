-- One of the uids is in a union where it is in one of its parts.
use Rattle.std.proofs.Common.{sym, ◌∙◌}
use Rattle.cedar_entities.proofs.UidLemmas.{found_first, found_second, one_of_both}
use Rattle.cedar_entities.proofs.entity.Entity.is_descendant_of_one.Goals as goal

pub returns-then-meets : goal.returns-then-meets
returns-then-meets c =
    rw (← c.self.view_is) (found_first _ _ c.meets.result c.meets.ensures c.if-meets.true ∙ sym (one_of_both c.self.inside.parents c.self.inside.indirect_ancestors c.args.uids.now.keys))

pub returns-else-meets : goal.returns-else-meets
returns-else-meets c =
    rw (← c.self.view_is) (found_second _ _ c.meets.result c.meets-else-meets.result c.meets.ensures c.if-meets.false c.meets-else-meets.ensures ∙ sym (one_of_both c.self.inside.parents c.self.inside.indirect_ancestors c.args.uids.now.keys))
