-- A choice is built of its three parts, and refused where the test or one of the branches is.
use Rattle.std.proofs.Common.{Some, sym, ◌∙◌, subst, inl, inr}
use Rattle.cedar_language.specs.Tree as tree
use Rattle.cedar_faults.specs.Reasons.{reason}
use Rattle.cedar_faults.specs.Converts.{Misses}
use Rattle.cedar_conversion.specs.Building.{IsBuilt, IsRefused}
use Rattle.cedar_conversion.proofs.Converting.{passed, both_some, three, flat_err, flat_ok, flat_both}
use Rattle.cedar_conversion.proofs.Made.{took_some, built_if}
use Rattle.cedar_conversion.proofs.Converting.{Both, Either}
use Rattle.cedar_conversion.proofs.Refusing.{refused_as, refused_test, refused_branch}
use Rattle.cedar_conversion.proofs.Told.{by_both, by_memory, of_pair, quiet}
use Rattle.cedar_conversion.proofs.relations.ite.Goals as goal

pub returns-in_err-test-clause-tree : goal.returns-in_err-test-clause-tree
returns-in_err-test-clause-tree g c u v w hu hv hw =
    let o = g.B.ExprBuilder.operations in
    let m = g.B.ExprBuilder.meaning in
    let refusal = g.B.ExprBuilder.refusal in
    let both = flat_both refusal (IsBuilt o m) (IsRefused o) (IsBuilt o m) (IsRefused o) c.args.then_expr c.args.else_expr c.flatten_tuple_2.result v w c.flatten_tuple_2.ensures hv hw in
    let e = c.in_err-test.field-0.0 in
    passed refusal (IsBuilt o m) (IsRefused o) c.from_residual.result e _ c.from_residual.ensures
    (subst (λ z. Misses (IsRefused o) refusal (reason e) z) (sym (three u v w (λ x y z. Some (tree.If x y z))))
    (flat_err refusal (IsBuilt o m) (IsRefused o) (Both refusal (IsBuilt o m) (IsRefused o) (IsBuilt o m) (IsRefused o)) (Either refusal (IsBuilt o m) (IsRefused o) (IsBuilt o m) (IsRefused o)) (IsRefused o) (λ x q. Some (tree.If x q.0 q.1))
    ((λ x q z is h. refused_as o (tree.If x q.0 q.1) z is (refused_test o x q.0 q.1 h)), (λ x q z is h. refused_as o (tree.If x q.0 q.1) z is (refused_branch o x q.0 q.1 h)))
    c.args.test c.flatten_tuple_2.result e u _ c.in_err-test.ensures hu both))

pub returns-clause-tree : goal.returns-clause-tree
returns-clause-tree g c u v w hu hv hw =
    let o = g.B.ExprBuilder.operations in
    let m = g.B.ExprBuilder.meaning in
    let refusal = g.B.ExprBuilder.refusal in
    let both = flat_both refusal (IsBuilt o m) (IsRefused o) (IsBuilt o m) (IsRefused o) c.args.then_expr c.args.else_expr c.flatten_tuple_2.result v w c.flatten_tuple_2.ensures hv hw in
    let k = c.in_ok-test in
    let h = flat_ok refusal (IsBuilt o m) (IsRefused o) (Both refusal (IsBuilt o m) (IsRefused o) (IsBuilt o m) (IsRefused o)) (Either refusal (IsBuilt o m) (IsRefused o) (IsBuilt o m) (IsRefused o)) c.args.test c.flatten_tuple_2.result (k.test, (k.then_expr, k.else_expr)) u _ k.ensures hu both in
    let x = h.0.value in
    let q = h.1.value in
    took_some o m refusal c.taken.result _ (tree.If x q.0 q.1) _ (three u v w (λ x y z. Some (tree.If x y z)) ∙ both_some u _ x q (λ x q. Some (tree.If x q.0 q.1)) h.0.is h.1.is)
    (built_if o x q.0 q.1 (m k.test) (m k.then_expr) (m k.else_expr) h.0.stands h.1.stands.0 h.1.stands.1) (c.taken.ensures.taken _ c.ite.ensures)

pub returns-in_err-test-clause-shown : goal.returns-in_err-test-clause-shown
returns-in_err-test-clause-shown g c =
    by_both c.from_residual.result c.args.test c.flatten_tuple_2.result c.in_err-test.field-0.0 _ c.from_residual.ensures c.in_err-test.ensures (λ k t. inl t) (λ k t. inr (of_pair c.args.then_expr c.args.else_expr c.flatten_tuple_2.result c.flatten_tuple_2.ensures k t))

pub returns-in_err-builder-clause-shown : goal.returns-in_err-builder-clause-shown
returns-in_err-builder-clause-shown g c =
    by_memory c.from_residual-in_err-builder.result c.in_err-builder.field-0.0 _ c.from_residual-in_err-builder.ensures c.in_err-builder.ensures

pub returns-clause-shown : goal.returns-clause-shown
returns-clause-shown g c = quiet c.taken.result _ c.taken.ensures.shown
