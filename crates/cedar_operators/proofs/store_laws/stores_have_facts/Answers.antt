-- The facts of a store of values are what it holds.
use Rattle.cedar_operators.proofs.FactsOf.{stores_have_facts}
use Rattle.cedar_operators.proofs.store_laws.stores_have_facts.Goals as goal

pub returns : goal.returns
returns c = stores_have_facts
