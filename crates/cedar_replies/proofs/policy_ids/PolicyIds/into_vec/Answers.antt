-- Ids that rise are the keys of the set that they make.
use Rattle.std.proofs.Common.{sym}
use Rattle.cedar_replies.proofs.Sets.{ids_listed}
use Rattle.cedar_replies.proofs.policy_ids.PolicyIds.into_vec.Goals as goal

pub returns : goal.returns
returns c = rw (← c.self.view_is) (sym (ids_listed _ c.self.invariant))
