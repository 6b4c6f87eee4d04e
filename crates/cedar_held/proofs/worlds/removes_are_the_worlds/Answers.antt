-- The law of EditedWorlds over the world's own law of edits at uids.
use Rattle.cedar_held.proofs.EditedWorlds.{removes}
use Rattle.cedar_held.proofs.worlds.removes_are_the_worlds.Goals as goal

pub returns : goal.returns
returns c = λ held old uids result shows left. removes c.edits_at_uids.ensures held old shows uids result left
