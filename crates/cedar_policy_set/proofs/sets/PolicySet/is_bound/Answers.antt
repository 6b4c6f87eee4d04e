-- The map has a key exactly where the view has an entry at it.
use Rattle.std.proofs.Common.{ap, sym, ◌∙◌}
use Rattle.cedar_policy_set.specs.Entries.{is_bound}
use Rattle.cedar_policy_set.proofs.Views.{found_some}
use Rattle.cedar_policy_set.proofs.sets.PolicySet.is_bound.Goals as goal

pub returns : goal.returns
returns c = c.contains_key.ensures ∙ sym (found_some c.self.inside.bound c.args.id.now) ∙ ap (λ es. is_bound es c.args.id.now) c.self.view_is
