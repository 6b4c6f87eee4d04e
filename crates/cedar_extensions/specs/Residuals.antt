-- What is left of expressions, compared by shape.
use Rattle.std.specs.Prelude.{Bool}
use Rattle.std.specs.declared.cmp.Ordering.{Ordering}
use Rattle.std.specs.Cmp.{IsTotalOrder}
use Rattle.std.specs.Ordering.{on, eq_by_cmp}
use Rattle.std.proofs.lemmas.Cmp.{on_total}
use Rattle.cedar_language.specs.Tree.{Tree}
use Rattle.cedar_trees.specs.Bare.{bare}
use Rattle.cedar_shapes.specs.ShapeOrder.{tree_cmp}
use Rattle.cedar_shapes.specs.ShapeLaws.{tree_cmp_total}
use Rattle.cedar_extensions.specs.declared.unevaluated.Residual.{Residual}

-- the tree that is left
abbrev pub residual_tree : Residual → Tree
residual_tree r = bare r.expr

abbrev pub residual_cmp : Residual → Residual → Ordering
residual_cmp = on residual_tree tree_cmp

abbrev pub same_residual : Residual → Residual → Bool
same_residual = eq_by_cmp residual_cmp

pub residuals_total : IsTotalOrder residual_cmp
residuals_total = on_total residual_tree tree_cmp_total
