-- A union holds what either set does.
use Rattle.cedar_entities.proofs.UidLemmas.{contains-both, found_first, found_second}
use Rattle.cedar_entities.proofs.entity.Entity.is_descendant_of.Goals as goal

pub returns-then-is_child_of : goal.returns-then-is_child_of
returns-then-is_child_of c = rw (contains-both c.args.self.now.parents c.args.self.now.indirect c.args.uid.now) (found_first _ _ _ c.is_child_of.ensures c.if-is_child_of.true)

pub returns-else-is_child_of : goal.returns-else-is_child_of
returns-else-is_child_of c = rw (contains-both c.args.self.now.parents c.args.self.now.indirect c.args.uid.now) (found_second _ _ _ _ c.is_child_of.ensures c.if-is_child_of.false c.is_indirect_descendant_of.ensures)
