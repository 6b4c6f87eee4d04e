use Rattle.std.proofs.Common.{◌≡◌, ◌||◌}
use Rattle.std.specs.List.{list_any}
use Rattle.cedar_language.specs.Uid.{Uid}
use Rattle.cedar_language.specs.Order.{same_uid}
use Rattle.cedar_entities.specs.Kept.{in_map}
use Rattle.cedar_entities.proofs.GainedEdges.{through}
use Rattle.cedar_entities.proofs.gaining.reached_by.Given as goal

abbrev pub invariant-loop-parent : goal.invariant-loop-parent
invariant-loop-parent l = (q : Uid) → (list_any (same_uid q) l.uids.items || through (in_map l.map) l.parent-iterator q) ≡ through (in_map l.map)
    l.initial.parent-iterator q
