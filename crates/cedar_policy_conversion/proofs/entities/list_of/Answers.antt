-- The view of a list between brackets is the list of its items' views.
use Rattle.std.proofs.Common.{sym, ap, ◌∙◌}
use Rattle.cedar_grammar.specs.Loose as loose
use Rattle.cedar_cst.specs.View.{view_primary}
use Rattle.cedar_cst.proofs.Views.{seen, view_primary_e_list}
use Rattle.cedar_policy_conversion.specs.Entities.{listed}
use Rattle.cedar_policy_conversion.proofs.entities.list_of.Goals as goal

pub returns-in-EList : goal.returns-in-EList
returns-in-EList c =
    let t = c.in-Some.primary in
    sym (ap listed (seen loose.missing_primary view_primary c.args.node.now t c.in-Some.is ∙ view_primary_e_list t c.in-EList.items c.in-EList.is))
