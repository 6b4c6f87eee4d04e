use Rattle.std.proofs.Common.{◌-◌, drop, length}
use Rattle.std.specs.Prelude.{string_bytes}
use Rattle.json.specs.Value.{items_view}
use Rattle.cedar_json.proofs.Splitting.{IsOpen}
use Rattle.cedar_json.proofs.bodies.next_body.Given as goal

abbrev pub invariant-items : goal.invariant-items
invariant-items l =
    let xs = l.items.items in
    IsOpen l.limit l.from l.at (items_view (drop l.from xs)) (items_view (drop l.at xs)) (string_bytes l.text)

abbrev pub decreases-items : goal.decreases-items
decreases-items l = length l.items.items - l.at
