-- As add_node does: a product is shown by its operands and operators.
use Rattle.std.proofs.Common.{map, ap, ◌∙◌}
use Rattle.std.proofs.lemmas.Result.{IfOk-weaker}
use Rattle.cedar_grammar.specs.Loose as loose
use Rattle.cedar_cst.specs.View.{view_mult, shown_unary}
use Rattle.cedar_cst.proofs.Views.{seen, view_mult_roll}
use Rattle.cedar_loose.specs.Links.{linked_unary}
use Rattle.cedar_loose.proofs.cursor.Cursor.mult_node.Goals as goal

pub returns : goal.returns
returns c = IfOk-weaker c.boxed_node.result _ _ (λ b h. seen loose.missing_mult view_mult b.value _ h ∙ (view_mult_roll c.into_inner.result c.args.extended ∙ ap (λ first. loose.mult (shown_unary first) (loose.unaries (map linked_unary c.args.extended.items))) c.into_inner.ensures)) c.boxed_node.ensures
