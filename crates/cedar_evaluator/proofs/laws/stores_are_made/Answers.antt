-- The lemmas of MadeStores, by the law on which stores have facts.
use Rattle.cedar_evaluator.proofs.MadeStores.{stores_made}
use Rattle.cedar_evaluator.proofs.laws.stores_are_made.Goals as goal

pub returns : goal.returns
returns c = stores_made c.stores_have_facts.ensures
