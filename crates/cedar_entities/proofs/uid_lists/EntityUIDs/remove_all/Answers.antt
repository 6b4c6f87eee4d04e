-- Where none of them is in the set, nothing is taken away.
use Rattle.std.proofs.Common.{sym, ◌∙◌}
use Rattle.cedar_entities.proofs.UidSets.{difference_apart}
use Rattle.cedar_entities.proofs.uid_lists.EntityUIDs.remove_all.Goals as goal

pub returns-else-meets : goal.returns-else-meets
returns-else-meets c = sym (difference_apart c.args.self.now c.args.gone.now.keys (sym c.meets.ensures ∙ c.if-meets.false))
