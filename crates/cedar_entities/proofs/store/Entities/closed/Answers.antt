-- A store that was edited as a whole knows no children.
use Rattle.cedar_entities.proofs.store.Entities.closed.Goals as goal

pub invariant_of-result-clause-known : goal.invariant_of-result-clause-known
invariant_of-result-clause-known c = tt
