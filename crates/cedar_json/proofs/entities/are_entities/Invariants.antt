use Rattle.std.proofs.Common.{◌≡◌, drop, is_some}
use Rattle.json.specs.Value.{items_view}
use Rattle.cedar_json.specs.Entities.{each_entity}
use Rattle.cedar_json.proofs.entities.are_entities.Given as goal

abbrev pub invariant-loop-item : goal.invariant-loop-item
invariant-loop-item l = is_some (each_entity (items_view (drop l.item-index l.item-items))) ≡ is_some (each_entity (items_view l.item-items))
