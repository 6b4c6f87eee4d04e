-- Those set aside so far, and the ones that are no actions in the rest, are the ones in the whole.
use Rattle.std.proofs.Common.{◌≡◌, ◌++◌, drop}
use Rattle.cedar_policy_parts.specs.Actions.{held_uids}
use Rattle.cedar_policy_conversion.specs.Entities.{others}
use Rattle.cedar_policy_conversion.proofs.entities.other_entities.Given as goal

abbrev pub invariant-uids : goal.invariant-uids
invariant-uids l = held_uids l.others.items ++ others (drop l.uid-index l.uid-items) ≡ others l.uid-items
