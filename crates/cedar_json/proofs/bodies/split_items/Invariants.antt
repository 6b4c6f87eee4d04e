use Rattle.std.proofs.Common.{◌-◌, drop, length, map}
use Rattle.std.specs.Prelude.{string_bytes}
use Rattle.json.specs.Value.{items_view}
use Rattle.cedar_json.proofs.Splitting.{IsSoFar}
use Rattle.cedar_json.proofs.bodies.split_items.Given as goal

abbrev pub invariant-bodies : goal.invariant-bodies
invariant-bodies l =
    let xs = l.items.items in
    IsSoFar l.limit (map string_bytes l.texts.items) (items_view xs) (items_view (drop l.from xs))

abbrev pub decreases-bodies : goal.decreases-bodies
decreases-bodies l = length l.items.items - l.from
