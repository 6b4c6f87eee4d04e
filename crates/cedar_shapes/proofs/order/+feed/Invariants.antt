use Rattle.std.proofs.Common.{◌≡◌, ◌≤◌, ◌+◌, ◌*◌}
use Rattle.std.specs.List.{fold}
use Rattle.cedar_language.specs.Height.{height}
use Rattle.cedar_trees.specs.Bare.{bare}
use Rattle.cedar_shapes.specs.Lists.{fed_of}
use Rattle.cedar_shapes.specs.Parts.{highest}
use Rattle.cedar_shapes.specs.PartsLeft.{parts_left}
use Rattle.cedar_shapes.specs.ShapeHash.{shape_hash}
use Rattle.cedar_shapes.proofs.order.+feed.Given as goal

abbrev pub decreases-feed : goal.decreases-feed
decreases-feed g l = 2 * height (bare l.expr.now) + 1

abbrev pub decreases-feed_all : goal.decreases-feed_all
decreases-feed_all g l = 2 * highest (parts_left l.parts) + 2

abbrev pub decreases-feed-loop-first : goal.decreases-feed-loop-first
decreases-feed-loop-first g l = height (bare l.e)

abbrev pub invariant-feed-loop-first : goal.invariant-feed-loop-first
invariant-feed-loop-first g l =
    (height (bare l.e) ≤ height (bare l.expr)) ×
    (fold g.H.Hasher.write l.initial.state (shape_hash (bare l.expr)) ≡ fold g.H.Hasher.write l.state (shape_hash (bare l.e)))

abbrev pub invariant-feed_all-loop-part : goal.invariant-feed_all-loop-part
invariant-feed_all-loop-part g l =
    (highest (parts_left l.part-iterator) ≤ highest (parts_left l.initial.part-iterator)) ×
    (fold g.H.Hasher.write l.initial.state (fed_of (parts_left l.initial.part-iterator)) ≡ fold g.H.Hasher.write l.state (fed_of (parts_left l.part-iterator)))
