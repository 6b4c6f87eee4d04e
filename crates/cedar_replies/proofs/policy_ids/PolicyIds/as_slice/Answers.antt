-- As into_vec does, of ids that are lent.
use Rattle.std.proofs.Common.{sym, ◌∙◌}
use Rattle.cedar_replies.proofs.Sets.{ids_listed}
use Rattle.cedar_replies.proofs.policy_ids.PolicyIds.as_slice.Goals as goal

pub returns : goal.returns
returns c = rw (← c.self.view_is) (c.as_slice.ensures.value ∙ sym (ids_listed _ c.self.invariant))
