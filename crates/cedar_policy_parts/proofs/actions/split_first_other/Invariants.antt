-- What was passed over has the type of actions, so the first other one is still to come.
use Rattle.std.proofs.Common.{◌≡◌, length}
use Rattle.cedar_policy_parts.specs.Actions.{held_uids, others}
use Rattle.cedar_policy_parts.proofs.actions.split_first_other.Given as goal

abbrev pub invariant-loop-first : goal.invariant-loop-first
invariant-loop-first l = others (held_uids l.euids) ≡ others (held_uids l.rest)

abbrev pub decreases-loop-first : goal.decreases-loop-first
decreases-loop-first l = length l.rest
