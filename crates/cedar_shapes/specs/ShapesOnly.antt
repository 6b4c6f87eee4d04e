-- Expressions that are compared by their shapes alone.
use Rattle.std.specs.declared.cmp.Ordering.{Ordering}
use Rattle.std.specs.Ordering.{on, eq_by_cmp}
use Rattle.std.specs.Bool.{Decides}
use Rattle.std.specs.Cmp.{IsTotalOrder}
use Rattle.std.specs.Hash.{Alike, same_Alike, on_Alike}
use Rattle.std.specs.Prelude.{◌≡◌}
use Rattle.std.proofs.lemmas.Cmp.{on_total}
use Rattle.cedar_language.specs.Tree.{Tree}
use Rattle.cedar_literals.specs.Heads.{order_decides}
use Rattle.cedar_trees.specs.Bare.{bare}
use Rattle.cedar_shapes.specs.ShapeOrder.{tree_cmp}
use Rattle.cedar_shapes.specs.ShapeLaws.{tree_cmp_total, tree_cmp_same}
use Rattle.cedar_shapes.specs.ShapeHash.{shape_hash}
use Rattle.cedar_shapes.specs.declared.shapes.Held.{Held}
use Rattle.cedar_shapes.specs.declared.shapes.Held.TheVariants.{Borrowed, Owned}
use Rattle.cedar_shapes.specs.declared.shapes.ExprShapeOnly.{ExprShapeOnly}

abbrev pub tree_held : {T : Type 0} → Held T → Tree
tree_held (Borrowed e) = bare e.now
tree_held (Owned e) = bare e

-- the bare tree of the expression
abbrev pub only_shape : {T : Type 0} → ExprShapeOnly T → Tree
only_shape s = tree_held s.expr

abbrev pub order_of_shapes : {T : Type 0} → ExprShapeOnly T → ExprShapeOnly T → Ordering
order_of_shapes = on only_shape tree_cmp

pub shapes_total : {T : Type 0} → IsTotalOrder (order_of_shapes {T = T})
shapes_total = on_total only_shape tree_cmp_total

pub tree_eq_decides : (s t : Tree) → Decides (eq_by_cmp tree_cmp s t) (s ≡ t)
tree_eq_decides = order_decides tree_cmp_total tree_cmp_same

pub shapes_alike : {T : Type 0} → Alike (eq_by_cmp (order_of_shapes {T = T})) (λ s. shape_hash (only_shape s))
shapes_alike = on_Alike only_shape (same_Alike shape_hash tree_eq_decides)
