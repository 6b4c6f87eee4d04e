-- A set in the order of uids has those that are the same (UidSets).
use Rattle.std.proofs.Common.{◌∙◌}
use Rattle.cedar_entities.proofs.UidSets.{list_any-ties}
use Rattle.cedar_entities.proofs.uid_lists.is_in.Goals as goal

pub returns : goal.returns
returns c = c.contains.ensures ∙ list_any-ties c.args.uid.now c.args.set.now.keys
