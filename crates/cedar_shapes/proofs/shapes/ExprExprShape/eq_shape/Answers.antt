-- Shapes that the order takes for equal are equal trees.
use Rattle.std.proofs.Common.{◌≡◌, rules}
use Rattle.std.specs.Ordering.{eq_by_cmp}
use Rattle.cedar_trees.specs.Bare.{bare}
use Rattle.cedar_shapes.specs.ShapeOrder.{tree_cmp}
use Rattle.cedar_shapes.specs.ShapesOnly.{tree_eq_decides}
use Rattle.cedar_shapes.proofs.shapes.ExprExprShape.eq_shape.Goals as goal

pub returns : goal.returns
returns g c =
    let same : c.is_eq.result ≡ eq_by_cmp tree_cmp (bare c.args.self.now) (bare c.args.other.now) = search rules in
    rw same (tree_eq_decides (bare c.args.self.now) (bare c.args.other.now))
