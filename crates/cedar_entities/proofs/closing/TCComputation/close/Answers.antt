-- What was computed is whole.
use Rattle.cedar_entities.specs.Kept.{in_map}
use Rattle.cedar_entities.proofs.Whole.{whole_of_kept}
use Rattle.cedar_entities.proofs.closing.TCComputation.close.Goals as goal

pub returns-in_ok-compute_stale-in-ComputeNow-clause-known : goal.returns-in_ok-compute_stale-in-ComputeNow-clause-known
returns-in_ok-compute_stale-in-ComputeNow-clause-known c = λ _. whole_of_kept (in_map c.compute_stale.new.entities) c.in_ok-compute_stale-in-ComputeNow.ensures.computed.keeps
