-- A step goes inside one pair of parentheses: fewer pairs are left, and what stands alone in them is the same.
use Rattle.std.proofs.Common.{◌≡◌, Option, Some, None, Bor, sym, subst, arith}
use Rattle.std.specs.Prelude.{IfErr, MatchResult}
use Rattle.cedar_cst.specs.declared.node.Node.{Node}
use Rattle.cedar_grammar.specs.Loose as loose
use Rattle.cedar_cst.specs.declared.cst.Expr.{Expr}
use Rattle.cedar_cst.specs.declared.cst.Primary.{Primary}
use Rattle.cedar_cst.specs.View.{shown_expr, shown_primary}
use Rattle.cedar_policy_conversion.specs.PartsShow.{is_empty_expr}
use Rattle.cedar_policy_conversion.proofs.Parens.{none_inside, last_inside, more_inside, fewer_parens, empty_itself, more_empty}
use Rattle.cedar_policy_conversion.proofs.parentheses.+inside_parens.Goals as goal

pub returns-in-None-clause-primary : goal.returns-in-None-clause-primary
returns-in-None-clause-primary t c = none_inside (shown_expr c.args.node.now) (sym c.in-None.ensures)

pub returns-in-None-in_parens-clause-primary : goal.returns-in-None-in_parens-clause-primary
returns-in-None-in_parens-clause-primary t c = last_inside (shown_expr c.args.node.now) (shown_primary c.in-Some.primary.now) (sym c.in-Some.ensures) (sym c.in-None-in_parens.ensures)

pub inside_parens-requires : goal.inside_parens-requires
inside_parens-requires t c =
    omega (arith, fewer_parens (shown_expr c.args.node.now) (shown_expr c.in-Some-in_parens.inner.now) (shown_primary c.in-Some.primary.now) (sym c.in-Some.ensures) (sym c.in-Some-in_parens.ensures))

pub returns-in-Some-in_parens-clause-primary : goal.returns-in-Some-in_parens-clause-primary
returns-in-Some-in_parens-clause-primary t c =
    subst (λ (o : Option loose.Primary). MatchResult c.inside_parens.result (λ (n : Bor (Node (Option Primary))). o ≡ Some (shown_primary n.now)) (λ (n : Bor (Node (Option Expr))). o ≡ None))
    (sym (more_inside (shown_expr c.args.node.now) (shown_expr c.in-Some-in_parens.inner.now) (shown_primary c.in-Some.primary.now) (sym c.in-Some.ensures) (sym c.in-Some-in_parens.ensures)))
    c.inside_parens.ensures.primary

pub returns-in-None-clause-empty : goal.returns-in-None-clause-empty
returns-in-None-clause-empty t c = empty_itself (shown_expr c.args.node.now) (sym c.in-None.ensures)

pub returns-in-Some-in_parens-clause-empty : goal.returns-in-Some-in_parens-clause-empty
returns-in-Some-in_parens-clause-empty t c =
    subst (λ b. IfErr c.inside_parens.result (λ (n : Bor (Node (Option Expr))). b ≡ is_empty_expr (shown_expr n.now)))
    (sym (more_empty (shown_expr c.args.node.now) (shown_expr c.in-Some-in_parens.inner.now) (shown_primary c.in-Some.primary.now) (sym c.in-Some.ensures) (sym c.in-Some-in_parens.ensures)))
    c.inside_parens.ensures.empty
