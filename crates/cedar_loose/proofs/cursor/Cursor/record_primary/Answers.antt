-- As add_node does: a record is shown by its entries.
use Rattle.std.proofs.Common.{◌∙◌, refl}
use Rattle.std.proofs.lemmas.Result.{IfOk-weaker}
use Rattle.cedar_grammar.specs.Loose as loose
use Rattle.cedar_cst.specs.View.{view_primary}
use Rattle.cedar_cst.proofs.Views.{seen, view_primary_r_inits}
use Rattle.cedar_loose.proofs.cursor.Cursor.record_primary.Goals as goal

pub returns : goal.returns
returns c = IfOk-weaker c.boxed_node.result _ _ (λ b h. seen loose.missing_primary view_primary b.value _ h ∙ view_primary_r_inits _ c.args.entries refl) c.boxed_node.ensures
