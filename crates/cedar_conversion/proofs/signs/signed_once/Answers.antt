-- One sign is its operator, applied to what is built.
use Rattle.std.proofs.Common.{Some, ap}
use Rattle.cedar_language.specs.Tree as tree
use Rattle.cedar_grammar.specs.Build.{unary}
use Rattle.cedar_conversion.specs.Joints.{repeated}
use Rattle.cedar_conversion.proofs.Made.{took_some, built_unary}
use Rattle.cedar_conversion.proofs.Told.{by_memory}
use Rattle.cedar_conversion.proofs.signs.signed_once.Goals as goal

pub returns-in-Bang-clause-tree : goal.returns-in-Bang-clause-tree
returns-in-Bang-clause-tree g c t ht =
    let o = g.B.ExprBuilder.operations in
    let m = g.B.ExprBuilder.meaning in
    let refusal = g.B.ExprBuilder.refusal in
    took_some o m refusal c.taken.result _ (unary tree.Not t) _ (ap (λ s. Some (repeated s 1 t)) c.in-Bang.is) (built_unary o tree.Not t (m c.args.expr) ht) (c.taken.ensures.taken _ c.not.ensures)

pub returns-in-Minus-clause-tree : goal.returns-in-Minus-clause-tree
returns-in-Minus-clause-tree g c t ht =
    let o = g.B.ExprBuilder.operations in
    let m = g.B.ExprBuilder.meaning in
    let refusal = g.B.ExprBuilder.refusal in
    took_some o m refusal c.taken-in-Minus.result _ (unary tree.Neg t) _ (ap (λ s. Some (repeated s 1 t)) c.in-Minus.is) (built_unary o tree.Neg t (m c.args.expr) ht) (c.taken-in-Minus.ensures.taken _ c.neg.ensures)

pub returns-in_err-builder-clause-shown : goal.returns-in_err-builder-clause-shown
returns-in_err-builder-clause-shown g c =
    by_memory c.from_residual.result c.in_err-builder.field-0.0 _ c.from_residual.ensures c.in_err-builder.ensures
