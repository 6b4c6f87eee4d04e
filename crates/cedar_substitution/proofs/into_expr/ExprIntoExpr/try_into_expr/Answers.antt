-- An unknown that stands for itself changes nothing of what is built.
use Rattle.std.proofs.Common.{sym}
use Rattle.cedar_trees.specs.Bare.{bare}
use Rattle.cedar_substitution.proofs.Giving.{gives, unchanged}
use Rattle.cedar_substitution.proofs.into_expr.ExprIntoExpr.try_into_expr.Goals as goal

pub returns-clause-built : goal.returns-clause-built
returns-clause-built g c = gives g.B.ExprBuilder.meaning g.B.ExprBuilder.refusal c.rebuilt.result _ _ (sym (unchanged g.B.ExprBuilder.operations (bare c.args.self.now))) c.rebuilt.ensures.built
