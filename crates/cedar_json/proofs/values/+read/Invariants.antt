use Rattle.std.proofs.Common.{◌≡◌, drop, is_some}
use Rattle.json.specs.Strict.{ItemsHaveUniqueKeys, MembersHaveUniqueKeys}
use Rattle.json.specs.Value.{items_view, members_view}
use Rattle.cedar_json.specs.Values.{data_of}
use Rattle.cedar_json.proofs.Sound.{sound}
use Rattle.cedar_json.proofs.values.+read.Given as goal

abbrev pub invariant-are_values-loop-item : goal.invariant-are_values-loop-item
invariant-are_values-loop-item l =
    let all = items_view l.item-items in
    let rest = items_view (drop l.item-index l.item-items) in
    ItemsHaveUniqueKeys all → ItemsHaveUniqueKeys rest × (is_some (data_of rest) ≡ is_some (data_of all))

abbrev pub invariant-are_entries-loop-member : goal.invariant-are_entries-loop-member
invariant-are_entries-loop-member l =
    let all = members_view l.member-items in
    let rest = members_view (drop l.member-index l.member-items) in
    MembersHaveUniqueKeys all → MembersHaveUniqueKeys rest × (sound rest ≡ sound all)
