use Rattle.std.proofs.Common.{◌≡◌, ◌≤◌, ◌+◌, ◌*◌}
use Rattle.std.specs.List.{list_any}
use Rattle.cedar_language.specs.Height.{height}
use Rattle.cedar_trees.specs.Bare.{bare}
use Rattle.cedar_shapes.specs.Leaves.{is_unknown_tree, holds_unknown}
use Rattle.cedar_shapes.specs.Parts.{highest}
use Rattle.cedar_shapes.specs.PartsLeft.{parts_left}
use Rattle.cedar_shapes.specs.Positions.{waiting}
use Rattle.cedar_shapes.proofs.leaves.+has_unknown.Given as goal

abbrev pub decreases-has_unknown : goal.decreases-has_unknown
decreases-has_unknown g l = 2 * height (bare l.expr.now) + 1

abbrev pub decreases-any_has_unknown : goal.decreases-any_has_unknown
decreases-any_has_unknown g l = 2 * highest (parts_left l.parts) + 2

abbrev pub decreases-has_unknown-loop-e : goal.decreases-has_unknown-loop-e
decreases-has_unknown-loop-e g l = height (bare l.e)

abbrev pub invariant-has_unknown-loop-e : goal.invariant-has_unknown-loop-e
invariant-has_unknown-loop-e g l =
    (height (bare l.e) ≤ height (bare l.expr)) × (holds_unknown (bare l.expr) ≡ holds_unknown (bare l.e))

abbrev pub invariant-any_has_unknown-loop-part : goal.invariant-any_has_unknown-loop-part
invariant-any_has_unknown-loop-part g l =
    (highest (parts_left l.part-iterator) ≤ highest (parts_left l.initial.part-iterator)) ×
    (list_any is_unknown_tree (waiting (parts_left l.initial.part-iterator)) ≡ list_any is_unknown_tree (waiting (parts_left l.part-iterator)))
