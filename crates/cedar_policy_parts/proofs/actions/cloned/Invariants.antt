-- What was copied is the first part of the list.
use Rattle.std.proofs.Common.{◌≡◌, take}
use Rattle.cedar_policy_parts.specs.Actions.{held_uids}
use Rattle.cedar_policy_parts.proofs.actions.cloned.Given as goal

abbrev pub invariant-loop-euid : goal.invariant-loop-euid
invariant-loop-euid l = held_uids l.copies.items ≡ held_uids (take l.euid-index l.euids)
