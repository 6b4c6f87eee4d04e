-- The text of the identifier is the attribute that the operator reads.
use Rattle.std.proofs.Common.{Ok, [], ◌∷◌, sym, ap, ◌∙◌}
use Rattle.cedar_language.specs.Tree as tree
use Rattle.cedar_grammar.specs.Build.{unary}
use Rattle.cedar_conversion.proofs.Made.{took, built_unary}
use Rattle.cedar_conversion.proofs.Told.{by_memory}
use Rattle.cedar_conversion.proofs.heads.accessed.Goals as goal

pub returns-clause-tree : goal.returns-clause-tree
returns-clause-tree g c t ht =
    let o = g.B.ExprBuilder.operations in
    let m = g.B.ExprBuilder.meaning in
    let refusal = g.B.ExprBuilder.refusal in
    took o m refusal c.taken.result _ (unary (tree.GetAttr c.args.id) t) (built_unary o (tree.GetAttr c.args.id) t (m c.args.expr) ht ∙ ap (λ s. Ok (o.apply (tree.GetAttr s) (m c.args.expr ∷ []))) (sym c.into_smolstr.ensures.text)) (c.taken.ensures.taken _ c.get_attr.ensures)

pub returns-in_err-builder-clause-shown : goal.returns-in_err-builder-clause-shown
returns-in_err-builder-clause-shown g c =
    by_memory c.from_residual.result c.in_err-builder.field-0.0 _ c.from_residual.ensures c.in_err-builder.ensures
