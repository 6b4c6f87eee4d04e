-- A set is one operator on all its items: built where they are, and refused where one of them is.
use Rattle.std.proofs.Common.{Some, subst}
use Rattle.cedar_language.specs.Tree as tree
use Rattle.cedar_grammar.specs.Build.{trees}
use Rattle.cedar_grammar.specs.Converting as converting
use Rattle.cedar_faults.specs.Reasons.{reason}
use Rattle.cedar_faults.specs.Converts.{Converts}
use Rattle.cedar_conversion.specs.Building.{AreBuilt, AreRefused}
use Rattle.cedar_conversion.specs.Heads.{IsHead, IsHeadRefused}
use Rattle.cedar_conversion.proofs.Converting.{same_as, passed, failed, then_some}
use Rattle.cedar_conversion.proofs.Made.{took, built_apply}
use Rattle.cedar_conversion.proofs.Refusing.{tree_head, refused_as, refused_apply}
use Rattle.cedar_conversion.proofs.Told.{by_part, by_memory, quiet_part}
use Rattle.cedar_conversion.proofs.heads.set_to_head.Goals as goal

pub returns-in_err-items-clause-head : goal.returns-in_err-items-clause-head
returns-in_err-items-clause-head g c v hv =
    let o = g.B.ExprBuilder.operations in
    let m = g.B.ExprBuilder.meaning in
    let refusal = g.B.ExprBuilder.refusal in
    let e = c.in_err-items.field-0.0 in
    passed refusal (IsHead o m) (IsHeadRefused o) c.from_residual.result e _ c.from_residual.ensures
    (failed refusal (AreRefused o) (IsHeadRefused o) (reason e) v (λ xs. Some (converting.a_tree (tree.Apply tree.MakeSet (trees xs))))
    (λ xs z is h. tree_head o (Some (tree.Apply tree.MakeSet (trees xs))) z is (λ y same. refused_as o (tree.Apply tree.MakeSet (trees xs)) y same (refused_apply o tree.MakeSet xs h)))
    (subst (λ r. Converts (AreBuilt o m) (AreRefused o) refusal r v) c.in_err-items.was hv))

pub returns-clause-head : goal.returns-clause-head
returns-clause-head g c v hv =
    let o = g.B.ExprBuilder.operations in
    let m = g.B.ExprBuilder.meaning in
    let refusal = g.B.ExprBuilder.refusal in
    let h = subst (λ r. Converts (AreBuilt o m) (AreRefused o) refusal r v) c.in_ok-items.was hv in
    let t = tree.Apply tree.MakeSet (trees h.value) in
    same_as refusal (IsHead o m) (IsHeadRefused o) c.expr_to_head.result _ _ (then_some v h.value (λ xs. Some (converting.a_tree (tree.Apply tree.MakeSet (trees xs)))) h.is)
    (c.expr_to_head.ensures.head (Some t) (took o m refusal c.taken.result _ t (built_apply o tree.MakeSet h.value _ h.stands) (c.taken.ensures.taken _ c.set.ensures)))

pub returns-in_err-items-clause-shown : goal.returns-in_err-items-clause-shown
returns-in_err-items-clause-shown g c =
    by_part c.from_residual.result c.args.items c.in_err-items.field-0.0 _ c.from_residual.ensures c.in_err-items.was (λ k t. t)

pub returns-in_err-builder-clause-shown : goal.returns-in_err-builder-clause-shown
returns-in_err-builder-clause-shown g c =
    by_memory c.from_residual-in_err-builder.result c.in_err-builder.field-0.0 _ c.from_residual-in_err-builder.ensures c.in_err-builder.ensures

pub returns-clause-shown : goal.returns-clause-shown
returns-clause-shown g c =
    quiet_part c.expr_to_head.result c.taken.result _ c.expr_to_head.ensures.shown c.taken.ensures.shown
