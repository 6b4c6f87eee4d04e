use Rattle.std.proofs.Common.{◌≡◌, drop, is_some}
use Rattle.json.specs.Strict.{ItemsHaveUniqueKeys}
use Rattle.json.specs.Value.{items_view}
use Rattle.cedar_json.specs.Entities.{bodies_of}
use Rattle.cedar_json.proofs.entities.are_bodies.Given as goal

abbrev pub invariant-loop-item : goal.invariant-loop-item
invariant-loop-item l =
    let all = items_view l.item-items in
    let rest = items_view (drop l.item-index l.item-items) in
    ItemsHaveUniqueKeys all → ItemsHaveUniqueKeys rest × (is_some (bodies_of rest) ≡ is_some (bodies_of all))
