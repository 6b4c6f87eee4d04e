-- Operands are joined where both are there; a joined tree lacks, or is refused, where an operand is.
use Rattle.cedar_conversion.specs.Building.{IsBuilt, IsRefused}
use Rattle.cedar_conversion.specs.Joints.{joined}
use Rattle.cedar_conversion.proofs.Converting.{same_as, passed, flat_err, flat_ok, both_some}
use Rattle.cedar_conversion.proofs.Refusing.{joined_left, joined_right}
use Rattle.std.proofs.Common.{inl, inr}
use Rattle.cedar_faults.proofs.Telling.{told_more}
use Rattle.cedar_conversion.proofs.Told.{by_both}
use Rattle.cedar_conversion.proofs.applying.join.Goals as goal

pub returns-in_err-left-clause-tree : goal.returns-in_err-left-clause-tree
returns-in_err-left-clause-tree g c v w hv hw =
    let o = g.B.ExprBuilder.operations in
    let m = g.B.ExprBuilder.meaning in
    let refusal = g.B.ExprBuilder.refusal in
    let j = c.args.joint in
    passed refusal (IsBuilt o m) (IsRefused o) c.from_residual.result c.in_err-left.field-0.0 _ c.from_residual.ensures
    (flat_err refusal (IsBuilt o m) (IsRefused o) (IsBuilt o m) (IsRefused o) (IsRefused o) (λ x y. joined j x y) (joined_left o j, joined_right o j) c.args.left c.args.right _ v w c.in_err-left.ensures hv hw)

pub returns-clause-tree : goal.returns-clause-tree
returns-clause-tree g c v w hv hw =
    let o = g.B.ExprBuilder.operations in
    let m = g.B.ExprBuilder.meaning in
    let refusal = g.B.ExprBuilder.refusal in
    let h = flat_ok refusal (IsBuilt o m) (IsRefused o) (IsBuilt o m) (IsRefused o) c.args.left c.args.right (c.in_ok-left.left, c.in_ok-left.right) v w c.in_ok-left.ensures hv hw in
    same_as refusal (IsBuilt o m) (IsRefused o) c.applied.result _ _ (both_some v w h.0.value h.1.value (λ x y. joined c.args.joint x y) h.0.is h.1.is) (c.applied.ensures.tree h.0.value h.1.value h.0.stands h.1.stands)

pub returns-in_err-left-clause-shown : goal.returns-in_err-left-clause-shown
returns-in_err-left-clause-shown g c =
    by_both c.from_residual.result c.args.left c.args.right c.in_err-left.field-0.0 _ c.from_residual.ensures c.in_err-left.ensures (λ k t. inl t) (λ k t. inr (inl t))

pub returns-clause-shown : goal.returns-clause-shown
returns-clause-shown g c =
    told_more c.applied.result _ _ (λ k s. inr (inr s)) c.applied.ensures.shown
