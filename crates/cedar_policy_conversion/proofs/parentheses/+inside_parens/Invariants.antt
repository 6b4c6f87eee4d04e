use Rattle.cedar_cst.specs.View.{shown_expr}
use Rattle.cedar_policy_conversion.proofs.Parens.{parens}
use Rattle.cedar_policy_conversion.proofs.parentheses.+inside_parens.Given as goal

abbrev pub decreases-inside_parens : goal.decreases-inside_parens
decreases-inside_parens l = parens (shown_expr l.node.now)
