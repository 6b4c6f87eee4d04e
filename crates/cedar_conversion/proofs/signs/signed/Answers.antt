-- After each round one more sign stands before the operand; where fewer signs are refused, so are all.
use Rattle.std.proofs.Common.{Some, sym, subst}
use Rattle.std.specs.Prelude.{IfSome}
use Rattle.cedar_faults.specs.Reasons.{reason}
use Rattle.cedar_faults.specs.Converts.{Converts}
use Rattle.cedar_conversion.specs.Building.{IsBuilt, IsRefused}
use Rattle.cedar_conversion.specs.Joints.{repeated}
use Rattle.cedar_conversion.proofs.Converting.{passed, failed, misses_more, then_some}
use Rattle.cedar_conversion.proofs.Refusing.{refused_as, refused_repeated, refused_under}
use Rattle.cedar_faults.proofs.Telling.{handed_on, tells_more}
use Rattle.cedar_conversion.proofs.Told.{by_part}
use Rattle.cedar_conversion.proofs.signs.signed.Goals as goal

pub returns-in_err-first-clause-tree : goal.returns-in_err-first-clause-tree
returns-in_err-first-clause-tree g c v hv =
    let o = g.B.ExprBuilder.operations in
    let m = g.B.ExprBuilder.meaning in
    let refusal = g.B.ExprBuilder.refusal in
    let s = c.args.sign in
    let n = c.args.count in
    let e = c.in_err-first.field-0.0 in
    passed refusal (IsBuilt o m) (IsRefused o) c.from_residual.result e _ c.from_residual.ensures
    (failed refusal (IsRefused o) (IsRefused o) (reason e) v (λ t. Some (repeated s n t)) (λ x z is h. refused_as o (repeated s n x) z is (refused_repeated o s n x h)) (subst (λ r. Converts (IsBuilt o m) (IsRefused o) refusal r v) c.in_err-first.was hv))

pub returns-in_err-made-clause-tree : goal.returns-in_err-made-clause-tree
returns-in_err-made-clause-tree g c v hv =
    let o = g.B.ExprBuilder.operations in
    let m = g.B.ExprBuilder.meaning in
    let refusal = g.B.ExprBuilder.refusal in
    let s = c.args.sign in
    let n = c.args.count in
    let i = c.signs._done in
    let e = c.in_err-made.field-0.0 in
    let first = subst (λ r. Converts (IsBuilt o m) (IsRefused o) refusal r v) c.in_ok-first.was hv in
    let x = first.value in
    passed refusal (IsBuilt o m) (IsRefused o) c.from_residual-in_err-made.result e _ c.from_residual-in_err-made.ensures
    (misses_more refusal (IsRefused o) (IsRefused o) (reason e) (Some (repeated s 1 (repeated s i x))) _ (λ none. absurd (cc none))
    (λ h. subst (λ z. IfSome z (IsRefused o)) (sym (then_some v x (λ t. Some (repeated s n t)) first.is)) (refused_under o s i n x c.signs-test.true h))
    (c.in_err-made.ensures.tree (repeated s i x) (c.signs.invariant x first.stands)))

pub returns-in_err-first-clause-shown : goal.returns-in_err-first-clause-shown
returns-in_err-first-clause-shown g c =
    by_part c.from_residual.result c.args.expr c.in_err-first.field-0.0 _ c.from_residual.ensures c.in_err-first.was (λ k t. t)

pub returns-in_err-made-clause-shown : goal.returns-in_err-made-clause-shown
returns-in_err-made-clause-shown g c =
    handed_on c.from_residual-in_err-made.result c.in_err-made.field-0.0 _ c.from_residual-in_err-made.ensures (tells_more _ _ _ (λ k t. absurd t) c.in_err-made.ensures.shown)
