-- A uid of the list is in the set where one of the set is in the list (Listed).
use Rattle.std.proofs.Common.{◌∙◌}
use Rattle.cedar_entities.proofs.Listed.{met}
use Rattle.cedar_entities.proofs.uid_lists.EntityUIDs.meets.Goals as goal

pub returns-then-listed-len : goal.returns-then-listed-len
returns-then-listed-len c = c.stands_among.ensures ∙ met c.as_slice-listed.result.now c.args.uids.now.keys c.args.self.now c.as_slice-listed.ensures.listed
