-- A store that is known to be closed keeps the ancestors that its parents reach.
use Rattle.std.proofs.Common.{rules}
use Rattle.cedar_entities.specs.Store.{found_in}
use Rattle.cedar_entities.proofs.Whole.{kept_of_whole}
use Rattle.cedar_entities.proofs.store.Entities.only_gains.Goals as goal

pub returns : goal.returns
returns c = λ t. (kept_of_whole (found_in c.args.self.now) (c.args.self.now.closed (search rules)), c.gains_edges.ensures t)
