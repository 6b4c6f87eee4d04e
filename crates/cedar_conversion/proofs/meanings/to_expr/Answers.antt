-- The own builder refuses no tree that a text writes: what it gives shows that there is one.
use Rattle.cedar_grammar.specs.Converting.{expr_tree}
use Rattle.cedar_cst.specs.View.{shown_expr}
use Rattle.cedar_trees.specs.Bare.{bare}
use Rattle.cedar_builders.specs.Own.{own_operations}
use Rattle.cedar_faults.specs.Reasons.{reason}
use Rattle.cedar_conversion.specs.Building.{IsBuilt, IsRefused}
use Rattle.cedar_conversion.proofs.Meant.{weighed_misses, weighed_meant}
use Rattle.cedar_faults.proofs.Telling.{tells_more}
use Rattle.cedar_conversion.proofs.Told.{of_either}
use Rattle.cedar_conversion.proofs.meanings.to_expr.Goals as goal

pub returns-in-Builder-clause-tree : goal.returns-in-Builder-clause-tree
returns-in-Builder-clause-tree g c =
    weighed_misses (IsBuilt own_operations bare) (IsRefused g.B.ExprBuilder.operations) (IsRefused own_operations) g.B.ExprBuilder.refusal _ (expr_tree c.args.styles.now (shown_expr c.args.node.now)) (reason c.in-Err.error) (reason c.weighed.result) c.expr_to_expr-again.result c.weighed.ensures.weighed c.in-Err.ensures.tree c.expr_to_expr-again.ensures.tree

pub returns-in-Builder-clause-meant : goal.returns-in-Builder-clause-meant
returns-in-Builder-clause-meant g c =
    weighed_meant (IsBuilt own_operations bare) (IsRefused g.B.ExprBuilder.operations) (IsRefused own_operations) g.B.ExprBuilder.refusal _ (expr_tree c.args.styles.now (shown_expr c.args.node.now)) (reason c.in-Err.error) (reason c.weighed.result) c.expr_to_expr-again.result c.weighed.ensures.weighed c.expr_to_expr-again.ensures.tree

pub returns-in-Builder-clause-shown : goal.returns-in-Builder-clause-shown
returns-in-Builder-clause-shown g c =
    tells_more _ _ _ (of_either c.in-Err.error c.expr_to_expr-again.result _ c.in-Err.ensures.shown c.expr_to_expr-again.ensures.shown) c.weighed.ensures.shown
