-- Rests on the merge of a text's own entries, which is the load of the world.
use Rattle.cedar_held.proofs.LoadWorlds.{loads_as_worlds}
use Rattle.cedar_held.proofs.worlds.texts_are_loaded.Goals as goal

pub returns : goal.returns
returns c = loads_as_worlds
