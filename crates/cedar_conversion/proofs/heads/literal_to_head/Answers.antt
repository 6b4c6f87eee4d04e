-- A literal is built as it is, and stands alone as a head.
use Rattle.std.proofs.Common.{◌≡◌, Some, subst}
use Rattle.cedar_language.specs.Tree as tree
use Rattle.cedar_literals.specs.Literals.{literal_of}
use Rattle.cedar_grammar.specs.Converting as converting
use Rattle.cedar_faults.specs.Reasons.{reason}
use Rattle.cedar_faults.specs.Converts.{Finds}
use Rattle.cedar_conversion.specs.Heads.{IsHead, IsHeadRefused}
use Rattle.cedar_conversion.proofs.Converting.{passed, lacks_more, early}
use Rattle.cedar_conversion.proofs.Made.{took_some, built_literal}
use Rattle.cedar_conversion.proofs.Told.{by_part, by_memory, quiet_part}
use Rattle.cedar_conversion.proofs.heads.literal_to_head.Goals as goal

pub returns-in_err-literal-clause-head : goal.returns-in_err-literal-clause-head
returns-in_err-literal-clause-head g c v hv =
    let o = g.B.ExprBuilder.operations in
    let m = g.B.ExprBuilder.meaning in
    let refusal = g.B.ExprBuilder.refusal in
    let e = c.in_err-literal.field-0.0 in
    passed refusal (IsHead o m) (IsHeadRefused o) c.from_residual.result e _ c.from_residual.ensures
    (lacks_more refusal (IsHeadRefused o) (reason e) v _ (early v (λ t. Some (converting.a_tree t))) (subst (λ r. Finds (λ x. tree.Lit (literal_of x)) r v) c.in_err-literal.was hv))

pub returns-clause-head : goal.returns-clause-head
returns-clause-head g c v hv =
    let o = g.B.ExprBuilder.operations in
    let m = g.B.ExprBuilder.meaning in
    let refusal = g.B.ExprBuilder.refusal in
    let l = c.in_ok-literal.literal in
    let is : v ≡ Some (tree.Lit (literal_of l)) = subst (λ r. Finds (λ x. tree.Lit (literal_of x)) r v) c.in_ok-literal.was hv in
    c.expr_to_head.ensures.head v (took_some o m refusal c.taken.result _ (tree.Lit (literal_of l)) v is (built_literal o (literal_of l)) (c.taken.ensures.taken _ c.val.ensures))

pub returns-in_err-literal-clause-shown : goal.returns-in_err-literal-clause-shown
returns-in_err-literal-clause-shown g c =
    by_part c.from_residual.result c.args.literal c.in_err-literal.field-0.0 _ c.from_residual.ensures c.in_err-literal.was (λ k t. t)

pub returns-in_err-builder-clause-shown : goal.returns-in_err-builder-clause-shown
returns-in_err-builder-clause-shown g c =
    by_memory c.from_residual-in_err-builder.result c.in_err-builder.field-0.0 _ c.from_residual-in_err-builder.ensures c.in_err-builder.ensures

pub returns-clause-shown : goal.returns-clause-shown
returns-clause-shown g c =
    quiet_part c.expr_to_head.result c.taken.result _ c.expr_to_head.ensures.shown c.taken.ensures.shown
