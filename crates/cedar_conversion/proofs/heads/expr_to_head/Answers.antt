-- A head that is an expression is refused where its tree is.
use Rattle.std.proofs.Common.{Some, subst}
use Rattle.cedar_grammar.specs.Converting as converting
use Rattle.cedar_faults.specs.Reasons.{reason}
use Rattle.cedar_faults.specs.Converts.{Converts}
use Rattle.cedar_conversion.specs.Building.{IsBuilt, IsRefused}
use Rattle.cedar_conversion.specs.Heads.{IsHead, IsHeadRefused}
use Rattle.cedar_conversion.proofs.Converting.{passed, failed}
use Rattle.cedar_conversion.proofs.Refusing.{tree_head, refused_as}
use Rattle.cedar_conversion.proofs.Told.{by_part}
use Rattle.cedar_conversion.proofs.heads.expr_to_head.Goals as goal

pub returns-in_err-expr-clause-head : goal.returns-in_err-expr-clause-head
returns-in_err-expr-clause-head g c v hv =
    let o = g.B.ExprBuilder.operations in
    let m = g.B.ExprBuilder.meaning in
    let refusal = g.B.ExprBuilder.refusal in
    let e = c.in_err-expr.field-0.0 in
    passed refusal (IsHead o m) (IsHeadRefused o) c.from_residual.result e _ c.from_residual.ensures
    (failed refusal (IsRefused o) (IsHeadRefused o) (reason e) v (λ t. Some (converting.a_tree t)) (λ x z is h. tree_head o (Some x) z is (λ y same. refused_as o x y same h)) (subst (λ r. Converts (IsBuilt o m) (IsRefused o) refusal r v) c.in_err-expr.was hv))

pub returns-in_err-expr-clause-shown : goal.returns-in_err-expr-clause-shown
returns-in_err-expr-clause-shown g c =
    by_part c.from_residual.result c.args.expr c.in_err-expr.field-0.0 _ c.from_residual.ensures c.in_err-expr.was (λ k t. t)
