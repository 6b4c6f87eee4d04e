-- What the map finds is what the view has there, and it stands under its own id.
use Rattle.std.proofs.Common.{ap, sym, ◌∙◌}
use Rattle.std.specs.Option.{option_map}
use Rattle.cedar_policy_set.specs.Bounds.{entry_of}
use Rattle.cedar_policy_set.specs.Entries.{bound_at}
use Rattle.cedar_policy_set.proofs.Views.{found_entry, found_named}
use Rattle.cedar_policy_set.proofs.sets.PolicySet.bound.Goals as goal

pub returns-clause-entry : goal.returns-clause-entry
returns-clause-entry c = ap (option_map entry_of) c.get.ensures ∙ sym (found_entry c.self.inside.bound c.args.id.now) ∙ ap (λ es. bound_at es c.args.id.now) c.self.view_is

pub returns-clause-id : goal.returns-clause-id
returns-clause-id c = found_named c.self.inside.bound c.self.invariant.sound.named c.args.id.now c.get.result c.get.ensures
