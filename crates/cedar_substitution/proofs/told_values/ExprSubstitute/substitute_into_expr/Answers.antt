-- As substitute does, through any builder: one that takes every call refuses for memory alone.
use Rattle.cedar_trees.specs.Bare.{bare}
use Rattle.cedar_substitution.specs.Told.{told_tree}
use Rattle.cedar_substitution.proofs.Typing.{gives_values, refused_for_memory}
use Rattle.cedar_substitution.proofs.told_values.ExprSubstitute.substitute_into_expr.Goals as goal

pub returns-clause-built : goal.returns-clause-built
returns-clause-built g c = gives_values g.B.ExprBuilder.operations c.args.told.now.entries (bare c.args.self.now) (told_tree c.in_ok-exprs.exprs.entries) c.in_ok-exprs.ensures g.B.ExprBuilder.meaning g.B.ExprBuilder.refusal c.substitute_exprs_into_expr.result c.substitute_exprs_into_expr.ensures.built c.substitute_exprs_into_expr.ensures.rising

pub returns-clause-memory : goal.returns-clause-memory
returns-clause-memory g c = refused_for_memory g.B.ExprBuilder.operations g.B.ExprBuilder.refusal _ c.substitute_exprs_into_expr.result c.substitute_exprs_into_expr.ensures.rising
