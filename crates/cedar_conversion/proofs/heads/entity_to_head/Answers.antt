-- An entity is a literal, and what is shared of it is the same uid.
use Rattle.std.proofs.Common.{◌≡◌, Some, Ok, sym, ap, ◌∙◌, subst}
use Rattle.cedar_language.specs.Tree as tree
use Rattle.cedar_grammar.specs.Converting as converting
use Rattle.cedar_faults.specs.Reasons.{reason}
use Rattle.cedar_faults.specs.Converts.{Finds}
use Rattle.cedar_conversion.specs.Heads.{IsHead, IsHeadRefused}
use Rattle.cedar_conversion.proofs.Converting.{same_as, passed, lacks_more, then_some, early}
use Rattle.cedar_conversion.proofs.Made.{took, built_literal}
use Rattle.cedar_faults.specs.declared.errors.ConversionError.TheVariants as error
use Rattle.cedar_faults.proofs.Telling.{handed_on}
use Rattle.cedar_conversion.proofs.Told.{by_part, by_memory, quiet_part}
use Rattle.cedar_conversion.proofs.heads.entity_to_head.Goals as goal

pub returns-in_err-uid-clause-head : goal.returns-in_err-uid-clause-head
returns-in_err-uid-clause-head g c v hv =
    let o = g.B.ExprBuilder.operations in
    let m = g.B.ExprBuilder.meaning in
    let refusal = g.B.ExprBuilder.refusal in
    let e = c.in_err-uid.field-0.0 in
    passed refusal (IsHead o m) (IsHeadRefused o) c.from_residual.result e _ c.from_residual.ensures
    (lacks_more refusal (IsHeadRefused o) (reason e) v _ (early v (λ u. Some (converting.a_tree (tree.Lit (tree.Entity u))))) (subst (λ r. Finds (λ x. x) r v) c.in_err-uid.was hv))

pub returns-clause-head : goal.returns-clause-head
returns-clause-head g c v hv =
    let o = g.B.ExprBuilder.operations in
    let m = g.B.ExprBuilder.meaning in
    let refusal = g.B.ExprBuilder.refusal in
    let u = c.in_ok-uid.uid in
    let t = tree.Lit (tree.Entity u) in
    let is : v ≡ Some u = subst (λ r. Finds (λ x. x) r v) c.in_ok-uid.was hv in
    same_as refusal (IsHead o m) (IsHeadRefused o) c.expr_to_head.result _ _ (then_some v u (λ x. Some (converting.a_tree (tree.Lit (tree.Entity x)))) is)
    (c.expr_to_head.ensures.head (Some t) (took o m refusal c.taken.result _ t (built_literal o (tree.Entity u) ∙ ap (λ x. Ok (o.val (tree.Entity x))) (sym c.in_ok-shared.ensures.ok)) (c.taken.ensures.taken _ c.val.ensures)))

pub returns-in_err-uid-clause-shown : goal.returns-in_err-uid-clause-shown
returns-in_err-uid-clause-shown g c =
    by_part c.from_residual.result c.args.uid c.in_err-uid.field-0.0 _ c.from_residual.ensures c.in_err-uid.was (λ k t. t)

pub returns-in_err-shared-clause-shown : goal.returns-in_err-shared-clause-shown
returns-in_err-shared-clause-shown g c =
    handed_on c.from_residual-in_err-shared.result error.Memory _ c.from_residual-in_err-shared.ensures record { each = λ k told. absurd told }

pub returns-in_err-builder-clause-shown : goal.returns-in_err-builder-clause-shown
returns-in_err-builder-clause-shown g c =
    by_memory c.from_residual-in_err-builder.result c.in_err-builder.field-0.0 _ c.from_residual-in_err-builder.ensures c.in_err-builder.ensures

pub returns-clause-shown : goal.returns-clause-shown
returns-clause-shown g c =
    quiet_part c.expr_to_head.result c.taken.result _ c.expr_to_head.ensures.shown c.taken.ensures.shown
