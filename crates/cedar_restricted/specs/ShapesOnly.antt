-- Restricted expressions that are compared by their shapes alone.
use Rattle.std.specs.Prelude.{Bool}
use Rattle.std.specs.declared.cmp.Ordering.{Ordering}
use Rattle.std.specs.Ordering.{on, eq_by_cmp}
use Rattle.std.specs.Cmp.{IsTotalOrder, IsPartialEquivalence, IsEquivalence, eq_by_cmp_equiv, partial_equiv_from_equiv}
use Rattle.std.specs.Hash.{Alike, same_Alike, on_Alike}
use Rattle.std.proofs.lemmas.Cmp.{on_total}
use Rattle.cedar_language.specs.Tree.{Tree}
use Rattle.cedar_shapes.specs.ShapeOrder.{tree_cmp}
use Rattle.cedar_shapes.specs.ShapeLaws.{tree_cmp_total}
use Rattle.cedar_shapes.specs.ShapeHash.{shape_hash}
use Rattle.cedar_shapes.specs.ShapesOnly.{tree_eq_decides}
use Rattle.cedar_restricted.specs.Views.{restricted_tree, borrowed_tree}
use Rattle.cedar_restricted.specs.declared.borrowed.BorrowedRestrictedExpr.{BorrowedRestrictedExpr}
use Rattle.cedar_restricted.specs.declared.restricted.RestrictedExpr.{RestrictedExpr}
use Rattle.cedar_restricted.specs.declared.shapes.RestrictedExprShapeOnly.{RestrictedExprShapeOnly}

-- the bare tree of the expression
abbrev pub restricted_shape : RestrictedExprShapeOnly → Tree
restricted_shape s = borrowed_tree s.expr

abbrev same_tree : Tree → Tree → Bool
same_tree = eq_by_cmp tree_cmp

abbrev pub shape_order : RestrictedExprShapeOnly → RestrictedExprShapeOnly → Ordering
shape_order = on restricted_shape tree_cmp

abbrev pub same_shape : RestrictedExprShapeOnly → RestrictedExprShapeOnly → Bool
same_shape = eq_by_cmp shape_order

abbrev pub borrowed_order : BorrowedRestrictedExpr → BorrowedRestrictedExpr → Ordering
borrowed_order = on borrowed_tree tree_cmp

abbrev pub same_borrowed : BorrowedRestrictedExpr → BorrowedRestrictedExpr → Bool
same_borrowed = eq_by_cmp borrowed_order

abbrev pub restricted_order : RestrictedExpr → RestrictedExpr → Ordering
restricted_order = on restricted_tree tree_cmp

abbrev pub same_restricted : RestrictedExpr → RestrictedExpr → Bool
same_restricted = eq_by_cmp restricted_order

restricted_order_total : IsTotalOrder restricted_order
restricted_order_total = on_total restricted_tree tree_cmp_total

pub same_restricted_equiv : IsEquivalence same_restricted
same_restricted_equiv = eq_by_cmp_equiv restricted_order_total

pub same_restricted_partial : IsPartialEquivalence same_restricted
same_restricted_partial = partial_equiv_from_equiv same_restricted_equiv

trees_alike : Alike same_tree shape_hash
trees_alike = same_Alike shape_hash tree_eq_decides

shape_order_total : IsTotalOrder shape_order
shape_order_total = on_total restricted_shape tree_cmp_total

pub same_shape_equiv : IsEquivalence same_shape
same_shape_equiv = eq_by_cmp_equiv shape_order_total

pub same_shape_partial : IsPartialEquivalence same_shape
same_shape_partial = partial_equiv_from_equiv same_shape_equiv

pub shapes_alike : Alike same_shape (λ s. shape_hash (restricted_shape s))
shapes_alike = on_Alike restricted_shape trees_alike

borrowed_order_total : IsTotalOrder borrowed_order
borrowed_order_total = on_total borrowed_tree tree_cmp_total

pub same_borrowed_equiv : IsEquivalence same_borrowed
same_borrowed_equiv = eq_by_cmp_equiv borrowed_order_total

pub same_borrowed_partial : IsPartialEquivalence same_borrowed
same_borrowed_partial = partial_equiv_from_equiv same_borrowed_equiv

pub borrowed_alike : Alike same_borrowed (λ b. shape_hash (borrowed_tree b))
borrowed_alike = on_Alike borrowed_tree trees_alike

pub restricted_alike : Alike same_restricted (λ r. shape_hash (restricted_tree r))
restricted_alike = on_Alike restricted_tree trees_alike
