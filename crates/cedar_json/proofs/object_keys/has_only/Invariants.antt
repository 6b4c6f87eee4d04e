use Rattle.std.proofs.Common.{◌≡◌, map, drop}
use Rattle.json.specs.Value.{members_view}
use Rattle.cedar_json.specs.Entities.{only_under}
use Rattle.cedar_json.proofs.object_keys.has_only.Given as goal

abbrev pub invariant-loop-member : goal.invariant-loop-member
invariant-loop-member l =
    let names = map (λ name. name.now) l.names in
    only_under names (members_view (drop l.member-index l.member-items)) ≡ only_under names (members_view l.member-items)
