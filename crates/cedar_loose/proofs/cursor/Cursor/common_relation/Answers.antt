-- As add_node does: a chain of comparisons is shown by its operands and operators.
use Rattle.std.proofs.Common.{◌∙◌, refl}
use Rattle.std.proofs.lemmas.Result.{IfOk-weaker}
use Rattle.cedar_grammar.specs.Loose as loose
use Rattle.cedar_cst.specs.View.{view_relation}
use Rattle.cedar_cst.proofs.Views.{seen, view_relation_common}
use Rattle.cedar_loose.proofs.cursor.Cursor.common_relation.Goals as goal

pub returns : goal.returns
returns c = IfOk-weaker c.boxed_node.result _ _ (λ b h. seen loose.missing_relation view_relation b.value _ h ∙ view_relation_common _ c.args.initial c.args.extended refl) c.boxed_node.ensures
