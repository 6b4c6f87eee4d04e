-- As add_node does: a chain of `&&` is shown by its operands.
use Rattle.std.proofs.Common.{map, ap, ◌∙◌}
use Rattle.std.proofs.lemmas.Result.{IfOk-weaker}
use Rattle.cedar_grammar.specs.Loose as loose
use Rattle.cedar_cst.specs.View.{view_and, shown_relation}
use Rattle.cedar_cst.proofs.Views.{seen, view_and_roll}
use Rattle.cedar_loose.proofs.cursor.Cursor.and_node.Goals as goal

pub returns : goal.returns
returns c = IfOk-weaker c.boxed_node.result _ _ (λ b h. seen loose.missing_and view_and b.value _ h ∙ (view_and_roll c.into_inner.result c.args.extended ∙ ap (λ first. loose.and (shown_relation first) (loose.relations (map shown_relation c.args.extended.items))) c.into_inner.ensures)) c.boxed_node.ensures
