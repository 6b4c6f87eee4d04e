-- The law of EditedWorlds over the world's own law of edits at uids.
use Rattle.cedar_held.proofs.EditedWorlds.{puts}
use Rattle.cedar_held.proofs.worlds.puts_are_the_worlds.Goals as goal

pub returns : goal.returns
returns c = λ held old vs result shows left. puts c.edits_at_uids.ensures held old shows vs result left
