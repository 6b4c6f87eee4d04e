-- The type stands in the operator by its written name, and only the tested operand is built.
use Rattle.std.proofs.Common.{◌≡◌, Some, Ok, [], ◌∷◌, sym, ap, ◌∙◌, inl, inr}
use Rattle.cedar_language.specs.Tree as tree
use Rattle.cedar_grammar.specs.Build.{unary}
use Rattle.cedar_conversion.specs.Building.{IsBuilt, IsRefused}
use Rattle.cedar_conversion.proofs.Converting.{passed, found, both_some, flat_err, flat_ok}
use Rattle.cedar_conversion.proofs.Made.{took_some, built_unary}
use Rattle.cedar_conversion.proofs.Refusing.{refused_as, refused_unary}
use Rattle.cedar_conversion.proofs.Told.{by_both, by_memory, quiet}
use Rattle.cedar_conversion.proofs.relations.is_type.Goals as goal

pub returns-in_err-target-clause-tree : goal.returns-in_err-target-clause-tree
returns-in_err-target-clause-tree g c v w hv hw =
    let o = g.B.ExprBuilder.operations in
    let m = g.B.ExprBuilder.meaning in
    let refusal = g.B.ExprBuilder.refusal in
    let e = c.in_err-target.field-0.0 in
    passed refusal (IsBuilt o m) (IsRefused o) c.from_residual.result e _ c.from_residual.ensures
    (flat_err refusal (IsBuilt o m) (IsRefused o) (λ e s. e ≡ s) (λ s. ⊥) (IsRefused o) (λ x s. Some (unary (tree.Is s) x))
    ((λ x s z is h. refused_as o (unary (tree.Is s) x) z is (refused_unary o (tree.Is s) x h)), (λ x s z is h. absurd h))
    c.args.target c.args.name e v w c.in_err-target.ensures hv (found refusal (λ s. s) c.args.name w hw))

pub returns-clause-tree : goal.returns-clause-tree
returns-clause-tree g c v w hv hw =
    let o = g.B.ExprBuilder.operations in
    let m = g.B.ExprBuilder.meaning in
    let refusal = g.B.ExprBuilder.refusal in
    let h = flat_ok refusal (IsBuilt o m) (IsRefused o) (λ e s. e ≡ s) (λ s. ⊥) c.args.target c.args.name (c.in_ok-target.target, c.in_ok-target.name) v w c.in_ok-target.ensures hv (found refusal (λ p. p) c.args.name w hw) in
    let x = h.0.value in
    let p = h.1.value in
    took_some o m refusal c.taken.result _ (unary (tree.Is p) x) _ (both_some v w x p (λ y q. Some (unary (tree.Is q) y)) h.0.is h.1.is)
    (built_unary o (tree.Is p) x (m c.in_ok-target.target) h.0.stands ∙ ap (λ q. Ok (o.apply (tree.Is q) (m c.in_ok-target.target ∷ []))) (sym (c.from.ensures ∙ h.1.stands))) (c.taken.ensures.taken _ c.is_entity_type.ensures)

pub returns-in_err-target-clause-shown : goal.returns-in_err-target-clause-shown
returns-in_err-target-clause-shown g c =
    by_both c.from_residual.result c.args.target c.args.name c.in_err-target.field-0.0 _ c.from_residual.ensures c.in_err-target.ensures (λ k t. inl t) (λ k t. inr t)

pub returns-in_err-builder-clause-shown : goal.returns-in_err-builder-clause-shown
returns-in_err-builder-clause-shown g c =
    by_memory c.from_residual-in_err-builder.result c.in_err-builder.field-0.0 _ c.from_residual-in_err-builder.ensures c.in_err-builder.ensures

pub returns-clause-shown : goal.returns-clause-shown
returns-clause-shown g c = quiet c.taken.result _ c.taken.ensures.shown
