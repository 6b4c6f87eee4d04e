-- The actions so far are shared.
use Rattle.std.proofs.Common.{◌≡◌, take}
use Rattle.cedar_policy_parts.specs.Actions.{held_uids}
use Rattle.cedar_policy_conversion.proofs.sharing.SharedParts.actions.Given as goal

abbrev pub invariant-loop-action : goal.invariant-loop-action
invariant-loop-action l = held_uids l.shared.items ≡ held_uids (take l.action-index l.actions)
