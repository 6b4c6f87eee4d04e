-- Each value stands under its own id, so the values are the entries; and each template among them lists its slots.
use Rattle.std.proofs.Common.{ap, sym, subst, ◌∙◌}
use Rattle.cedar_policy_set.specs.Bounds.{seen, ListTheirSlots}
use Rattle.cedar_policy_set.proofs.Views.{seen_values}
use Rattle.cedar_policy_set.proofs.sets.PolicySet.values.Goals as goal

pub returns-clause-entries : goal.returns-clause-entries
returns-clause-entries c = ap seen c.values.ensures ∙ seen_values _ c.self.invariant.sound.named ∙ c.self.view_is

pub returns-clause-listed : goal.returns-clause-listed
returns-clause-listed c = subst ListTheirSlots (sym c.values.ensures) c.self.invariant.sound.listed
