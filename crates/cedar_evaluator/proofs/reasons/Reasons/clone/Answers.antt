-- Each id stands in the copy.
use Rattle.std.proofs.Common.{◌∙◌}
use Rattle.cedar_policy_set.proofs.Copies.{same_keys}
use Rattle.cedar_evaluator.proofs.reasons.Reasons.clone.Goals as goal

pub returns : goal.returns
returns c = same_keys _ c.self.inside.ids c.in_ok-ids.ids c.in_ok-ids.ensures ∙ c.self.view_is
