-- A node shows the value that it holds, and a sum is shown by its operands and their signs, which a box doesn't change.
use Rattle.std.proofs.Common.{map, ap, ◌∙◌}
use Rattle.std.proofs.lemmas.Result.{IfOk-weaker}
use Rattle.cedar_grammar.specs.Loose as loose
use Rattle.cedar_cst.specs.View.{view_add, shown_mult}
use Rattle.cedar_cst.proofs.Views.{seen, view_add_roll}
use Rattle.cedar_loose.specs.Links.{linked_mult}
use Rattle.cedar_loose.proofs.cursor.Cursor.add_node.Goals as goal

pub returns : goal.returns
returns c = IfOk-weaker c.boxed_node.result _ _ (λ b h. seen loose.missing_add view_add b.value _ h ∙ (view_add_roll c.into_inner.result c.args.extended ∙ ap (λ first. loose.add (shown_mult first) (loose.mults (map linked_mult c.args.extended.items))) c.into_inner.ensures)) c.boxed_node.ensures
