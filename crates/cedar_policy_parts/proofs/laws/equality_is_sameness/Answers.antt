-- Rests on keys and texts being compared byte for byte.
use Rattle.cedar_policy_parts.specs.Sameness.{annotations_decide}
use Rattle.cedar_policy_parts.proofs.laws.equality_is_sameness.Goals as goal

pub returns : goal.returns
returns c = annotations_decide
