-- What is copied is as sound as what is bound, and binds the same (Copies).
use Rattle.std.proofs.Common.{◌∙◌}
use Rattle.cedar_policy_set.proofs.Copies.{copies_sound, same_entries}
use Rattle.cedar_policy_set.proofs.sets.PolicySet.clone.Goals as goal

pub from_raw_components-requires : goal.from_raw_components-requires
from_raw_components-requires c = copies_sound c.self.inside.bound c.in_ok-bound.bound c.in_ok-bound.ensures c.self.invariant.sound

pub returns : goal.returns
returns c = c.from_raw_components.ensures ∙ same_entries c.self.inside.bound c.in_ok-bound.bound c.in_ok-bound.ensures ∙ c.self.view_is
