use Rattle.std.proofs.Common.{◌≡◌, ◌≤◌, ◌+◌, ◌*◌}
use Rattle.std.specs.List.{list_all}
use Rattle.cedar_language.specs.Height.{height}
use Rattle.cedar_trees.specs.Bare.{bare}
use Rattle.cedar_shapes.specs.Leaves.{is_projectable}
use Rattle.cedar_shapes.specs.Parts.{highest}
use Rattle.cedar_shapes.specs.PartsLeft.{parts_left}
use Rattle.cedar_shapes.proofs.leaves.+projectable.Given as goal

abbrev pub decreases-projectable : goal.decreases-projectable
decreases-projectable g l = 2 * height (bare l.expr.now) + 1

abbrev pub decreases-all_projectable : goal.decreases-all_projectable
decreases-all_projectable g l = 2 * highest (parts_left l.parts) + 2

abbrev pub invariant-all_projectable-loop-part : goal.invariant-all_projectable-loop-part
invariant-all_projectable-loop-part g l =
    (highest (parts_left l.part-iterator) ≤ highest (parts_left l.initial.part-iterator)) ×
    (list_all is_projectable (parts_left l.initial.part-iterator) ≡ list_all is_projectable (parts_left l.part-iterator))
