-- The entity that is written for a slot is what the slot means, and no construct asks which of both stands there.
use Rattle.cedar_partial_evaluation.proofs.Linking.{linking_is_writing as law}
use Rattle.cedar_partial_evaluation.proofs.linking_is_writing.Goals as goal

pub returns : goal.returns
returns c = law
