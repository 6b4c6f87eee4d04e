-- Each value stands under its own id, so the values are the entries.
use Rattle.std.proofs.Common.{ap, ◌∙◌}
use Rattle.cedar_policy_set.specs.Bounds.{seen}
use Rattle.cedar_policy_set.proofs.Views.{seen_values}
use Rattle.cedar_policy_set.proofs.sets.PolicySet.into_values.Goals as goal

pub returns : goal.returns
returns c = ap seen c.into_values.ensures ∙ seen_values _ c.self.invariant.sound.named ∙ c.self.view_is
