-- The entities shared so far, and those that are left, are all that were given.
use Rattle.std.proofs.Common.{◌≡◌, ◌++◌}
use Rattle.cedar_policy_parts.specs.Actions.{held_uids}
use Rattle.cedar_policy_conversion.proofs.entities.shared.Given as goal

abbrev pub invariant-loop-uid : goal.invariant-loop-uid
invariant-loop-uid l = held_uids l.euids.items ++ l.uid-iterator.rest.items ≡ l.fn.uids.items
