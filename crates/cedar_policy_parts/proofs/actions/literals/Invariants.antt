-- What was made stands for the first part of the list.
use Rattle.std.proofs.Common.{◌≡◌, map, take}
use Rattle.cedar_trees.specs.Bare.{bare}
use Rattle.cedar_policy_parts.specs.Actions.{held_uids, entity_literal}
use Rattle.cedar_policy_parts.proofs.actions.literals.Given as goal

abbrev pub invariant-loop-euid : goal.invariant-loop-euid
invariant-loop-euid l = map bare l.made.items ≡ map entity_literal (held_uids (take l.euid-index l.euids))
