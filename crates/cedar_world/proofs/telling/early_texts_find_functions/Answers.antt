-- What texts call is there, binding slots adds no call, and what was left calls such functions alone.
use Rattle.cedar_world.proofs.Lookups.{early_texts_find_functions as law}
use Rattle.cedar_world.proofs.telling.early_texts_find_functions.Goals as goal

pub returns : goal.returns
returns c = law c.linking_binds_the_condition.ensures c.calls_are_found.ensures
