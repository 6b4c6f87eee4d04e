use Rattle.std.proofs.Common.{◌≡◌, ◌≤◌, ◌+◌, ◌*◌}
use Rattle.cedar_language.specs.Height.{height}
use Rattle.cedar_trees.specs.Bare.{bare}
use Rattle.cedar_shapes.specs.Lists.{pairs_cmp, left_highest}
use Rattle.cedar_shapes.specs.PairsLeft.{pairs_left}
use Rattle.cedar_shapes.specs.ShapeOrder.{tree_cmp}
use Rattle.cedar_shapes.proofs.order.+compare.Given as goal

abbrev pub decreases-compare : goal.decreases-compare
decreases-compare g l = 2 * height (bare l.left.now) + 1

abbrev pub decreases-compare_all : goal.decreases-compare_all
decreases-compare_all g l = 2 * left_highest (pairs_left l.pairs) + 2

abbrev pub decreases-compare-loop-a : goal.decreases-compare-loop-a
decreases-compare-loop-a g l = height (bare l.a)

abbrev pub invariant-compare-loop-a : goal.invariant-compare-loop-a
invariant-compare-loop-a g l =
    (height (bare l.a) ≤ height (bare l.left)) × (tree_cmp (bare l.left) (bare l.right) ≡ tree_cmp (bare l.a) (bare l.b))

abbrev pub invariant-compare_all-loop-x : goal.invariant-compare_all-loop-x
invariant-compare_all-loop-x g l =
    (left_highest (pairs_left l.x-iterator) ≤ left_highest (pairs_left l.initial.x-iterator)) ×
    (pairs_cmp (pairs_left l.initial.x-iterator) ≡ pairs_cmp (pairs_left l.x-iterator))
