-- As add_node does: a call is shown by its arguments.
use Rattle.std.proofs.Common.{◌∙◌, refl}
use Rattle.std.proofs.lemmas.Result.{IfOk-weaker}
use Rattle.cedar_grammar.specs.Loose as loose
use Rattle.cedar_cst.specs.View.{view_mem_access}
use Rattle.cedar_cst.proofs.Views.{seen, view_mem_access_call}
use Rattle.cedar_loose.proofs.cursor.Cursor.call_access.Goals as goal

pub returns : goal.returns
returns c = IfOk-weaker c.boxed_node.result _ _ (λ b h. seen loose.missing_access view_mem_access b.value _ h ∙ view_mem_access_call _ c.args.arguments refl) c.boxed_node.ensures
