-- As add_node does: an expression that is no choice is shown by its chain of `||`, and that by its operands.
use Rattle.std.proofs.Common.{map, ap, ◌∙◌, refl}
use Rattle.std.proofs.lemmas.Result.{IfOk-weaker}
use Rattle.cedar_grammar.specs.Loose as loose
use Rattle.cedar_cst.specs.View.{view_expr, view_or, shown_and}
use Rattle.cedar_cst.proofs.Views.{seen, view_expr_expr, view_expr_impl_roll, view_expr_data_or, view_or_roll}
use Rattle.cedar_loose.proofs.cursor.Cursor.or_expr.Goals as goal

pub returns : goal.returns
returns c =
    let chain = seen loose.missing_or view_or c.in_ok-or.or _ c.in_ok-or.ensures ∙ (view_or_roll c.into_inner-initial.result c.args.extended ∙ ap (λ first. loose.or (shown_and first) (loose.ands (map shown_and c.args.extended.items))) c.into_inner-initial.ensures) in
    IfOk-weaker c.node-2.result _ _ (λ n h. seen loose.missing_expr view_expr n _ h ∙ (view_expr_expr _ _ refl ∙ (view_expr_impl_roll _ ∙ (view_expr_data_or _ c.in_ok-or.or c.in_ok-expr.ensures.ok ∙ ap loose.or_expr chain)))) c.node-2.ensures
