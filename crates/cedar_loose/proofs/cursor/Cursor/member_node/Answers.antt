-- As add_node does: a member is shown by its primary and its accesses.
use Rattle.std.proofs.Common.{◌∙◌}
use Rattle.std.proofs.lemmas.Result.{IfOk-weaker}
use Rattle.cedar_grammar.specs.Loose as loose
use Rattle.cedar_cst.specs.View.{view_member}
use Rattle.cedar_cst.proofs.Views.{seen, view_member_roll}
use Rattle.cedar_loose.proofs.cursor.Cursor.member_node.Goals as goal

pub returns : goal.returns
returns c = IfOk-weaker c.node.result _ _ (λ n h. seen loose.missing_member view_member n _ h ∙ view_member_roll c.args.item c.args.access) c.node.ensures
