-- The uids are taken away from both lists.
use Rattle.std.specs.FinSet as set
use Rattle.cedar_entities.proofs.UidLemmas.{both_are}
use Rattle.cedar_entities.proofs.entity.Entity.remove_ancestors.Goals as goal

pub returns : goal.returns
returns c =
    let gone = set.from_list c.args.uids.now.keys in
    both_are _ c.args.self.now (λ s. set.difference s gone) (λ s. set.difference s gone) c.remove_all.new.self c.remove_all-2.new.self c.self.view_is
    c.remove_all.ensures c.remove_all-2.ensures
