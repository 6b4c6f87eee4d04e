-- As add_node does: a choice is shown by its three expressions, whatever boxes it lies in.
use Rattle.std.proofs.Common.{◌∙◌, refl}
use Rattle.std.proofs.lemmas.Result.{IfOk-weaker}
use Rattle.cedar_grammar.specs.Loose as loose
use Rattle.cedar_cst.specs.View.{view_expr}
use Rattle.cedar_cst.proofs.Views.{seen, view_expr_expr, view_expr_impl_roll, view_expr_data_if}
use Rattle.cedar_loose.proofs.cursor.Cursor.if_expr.Goals as goal

pub returns : goal.returns
returns c = IfOk-weaker c.node.result _ _ (λ n h. seen loose.missing_expr view_expr n _ h ∙ (view_expr_expr _ _ refl ∙ (view_expr_impl_roll _ ∙ view_expr_data_if _ c.args.test c.args.then c.args.other c.in_ok-expr.ensures.ok))) c.node.ensures
