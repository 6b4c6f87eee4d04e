-- No uid before was met, so the rest of the list decides.
use Rattle.std.proofs.Common.{◌≡◌, drop}
use Rattle.std.specs.List.{list_any}
use Rattle.std.specs.Option.{option_copied}
use Rattle.cedar_policy_parts.specs.Actions.{held_uids}
use Rattle.cedar_operators.specs.Hierarchy.{is_within_entity}
use Rattle.cedar_evaluator.proofs.scopes.is_in_some.Given as goal

abbrev pub invariant-loop-uid : goal.invariant-loop-uid
invariant-loop-uid l =
    let test = is_within_entity l.given.uid.now (option_copied l.given.entity) in
    list_any test (held_uids l.uids) ≡ list_any test (held_uids (drop l.uid-index l.uids))
