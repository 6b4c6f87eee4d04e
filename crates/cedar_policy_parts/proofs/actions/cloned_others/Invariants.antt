-- What was copied, and those of what is left, are those of the whole.
use Rattle.std.proofs.Common.{◌≡◌, ◌++◌, length}
use Rattle.cedar_policy_parts.specs.Actions.{held_uids, others}
use Rattle.cedar_policy_parts.proofs.actions.cloned_others.Given as goal

abbrev pub invariant-loop-first : goal.invariant-loop-first
invariant-loop-first l = others (held_uids l.euids) ≡ held_uids l.copies.items ++ others (held_uids l.left)

abbrev pub decreases-loop-first : goal.decreases-loop-first
decreases-loop-first l = length (others (held_uids l.left))
