-- A slot is built as it is, and stands alone as a head.
use Rattle.std.proofs.Common.{◌≡◌, Some, subst}
use Rattle.cedar_language.specs.Tree as tree
use Rattle.cedar_grammar.specs.Converting as converting
use Rattle.cedar_faults.specs.Reasons.{reason}
use Rattle.cedar_faults.specs.Converts.{Finds}
use Rattle.cedar_conversion.specs.Heads.{IsHead, IsHeadRefused}
use Rattle.cedar_conversion.proofs.Converting.{same_as, passed, lacks_more, then_some, early}
use Rattle.cedar_conversion.proofs.Made.{took, built_slot}
use Rattle.cedar_conversion.proofs.Told.{by_part, by_memory, quiet_part}
use Rattle.cedar_conversion.proofs.heads.slot_to_head.Goals as goal

pub returns-in_err-id-clause-head : goal.returns-in_err-id-clause-head
returns-in_err-id-clause-head g c v hv =
    let o = g.B.ExprBuilder.operations in
    let m = g.B.ExprBuilder.meaning in
    let refusal = g.B.ExprBuilder.refusal in
    let e = c.in_err-id.field-0.0 in
    passed refusal (IsHead o m) (IsHeadRefused o) c.from_residual.result e _ c.from_residual.ensures
    (lacks_more refusal (IsHeadRefused o) (reason e) v _ (early v (λ s. Some (converting.a_tree (tree.Slot s)))) (subst (λ r. Finds (λ x. x) r v) c.in_err-id.was hv))

pub returns-clause-head : goal.returns-clause-head
returns-clause-head g c v hv =
    let o = g.B.ExprBuilder.operations in
    let m = g.B.ExprBuilder.meaning in
    let refusal = g.B.ExprBuilder.refusal in
    let s = c.in_ok-id.id in
    let is : v ≡ Some s = subst (λ r. Finds (λ x. x) r v) c.in_ok-id.was hv in
    same_as refusal (IsHead o m) (IsHeadRefused o) c.expr_to_head.result _ _ (then_some v s (λ x. Some (converting.a_tree (tree.Slot x))) is)
    (c.expr_to_head.ensures.head (Some (tree.Slot s)) (took o m refusal c.taken.result _ (tree.Slot s) (built_slot o s) (c.taken.ensures.taken _ c.slot.ensures)))

pub returns-in_err-id-clause-shown : goal.returns-in_err-id-clause-shown
returns-in_err-id-clause-shown g c =
    by_part c.from_residual.result c.args.id c.in_err-id.field-0.0 _ c.from_residual.ensures c.in_err-id.was (λ k t. t)

pub returns-in_err-builder-clause-shown : goal.returns-in_err-builder-clause-shown
returns-in_err-builder-clause-shown g c =
    by_memory c.from_residual-in_err-builder.result c.in_err-builder.field-0.0 _ c.from_residual-in_err-builder.ensures c.in_err-builder.ensures

pub returns-clause-shown : goal.returns-clause-shown
returns-clause-shown g c =
    quiet_part c.expr_to_head.result c.taken.result _ c.expr_to_head.ensures.shown c.taken.ensures.shown
