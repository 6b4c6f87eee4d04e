-- The trees that write the values are told, and any such trees will do.
use Rattle.cedar_substitution.specs.Told.{told_tree}
use Rattle.cedar_substitution.proofs.Typing.{each_ok}
use Rattle.cedar_substitution.proofs.told_values.ExprSubstitute.substitute.Goals as goal

pub returns : goal.returns
returns g c = each_ok c.substitute_exprs.result (λ expr h. (told_tree c.in_ok-exprs.exprs.entries, c.in_ok-exprs.ensures, h)) c.substitute_exprs.ensures
