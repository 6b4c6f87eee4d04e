-- Data errs exactly where a part errs whose names are all told, which is what the world's test looks for.
use Rattle.cedar_world.proofs.ContextErrors.{contexts_err_in_parts as law}
use Rattle.cedar_world.proofs.telling.contexts_err_in_parts.Goals as goal

pub returns : goal.returns
returns c = law c.data_errs_in_parts.ensures
