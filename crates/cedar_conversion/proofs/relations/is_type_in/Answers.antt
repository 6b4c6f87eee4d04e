-- `is` with `in` is the conjunction of both tests, which a lawful builder makes of them.
use Rattle.std.proofs.Common.{◌≡◌, Some, Ok, [], ◌∷◌, sym, ap, ◌∙◌, subst, inl, inr}
use Rattle.cedar_language.specs.Tree as tree
use Rattle.cedar_grammar.specs.Build.{unary, binary, is_in}
use Rattle.cedar_faults.specs.Reasons.{reason}
use Rattle.cedar_faults.specs.Converts.{Misses}
use Rattle.cedar_conversion.specs.Building.{IsBuilt, IsRefused}
use Rattle.cedar_conversion.proofs.Converting.{passed, found, both_some, three, flat_err, flat_ok, flat_both}
use Rattle.cedar_conversion.proofs.Made.{took_some, built_unary, built_binary, built_and}
use Rattle.cedar_conversion.proofs.Converting.{Both, Either}
use Rattle.cedar_conversion.proofs.Refusing.{refused_as, refused_typed, refused_within}
use Rattle.cedar_conversion.proofs.Told.{by_both, by_memory, of_pair, quiet}
use Rattle.cedar_conversion.proofs.relations.is_type_in.Goals as goal

pub returns-in_err-target-clause-tree : goal.returns-in_err-target-clause-tree
returns-in_err-target-clause-tree g c v w u hv hw hu =
    let o = g.B.ExprBuilder.operations in
    let m = g.B.ExprBuilder.meaning in
    let refusal = g.B.ExprBuilder.refusal in
    let both = flat_both refusal (λ e s. e ≡ s) (λ s. ⊥) (IsBuilt o m) (IsRefused o) c.args.name c.args.entity c.flatten_tuple_2.result w u c.flatten_tuple_2.ensures (found refusal (λ p. p) c.args.name w hw) hu in
    let e = c.in_err-target.field-0.0 in
    passed refusal (IsBuilt o m) (IsRefused o) c.from_residual.result e _ c.from_residual.ensures
    (subst (λ z. Misses (IsRefused o) refusal (reason e) z) (sym (three v w u (λ x p y. Some (is_in p x y))))
    (flat_err refusal (IsBuilt o m) (IsRefused o) (Both refusal (λ e s. e ≡ s) (λ s. ⊥) (IsBuilt o m) (IsRefused o)) (Either refusal (λ e s. e ≡ s) (λ s. ⊥) (IsBuilt o m) (IsRefused o)) (IsRefused o) (λ x q. Some (is_in q.0 x q.1))
    ((λ x q z is h. refused_as o (is_in q.0 x q.1) z is (refused_typed o q.0 x q.1 h)), (λ x q z is h. refused_as o (is_in q.0 x q.1) z is (refused_within o q.0 x q.1 h)))
    c.args.target c.flatten_tuple_2.result e v _ c.in_err-target.ensures hv both))

pub returns-clause-tree : goal.returns-clause-tree
returns-clause-tree g c v w u hv hw hu =
    let o = g.B.ExprBuilder.operations in
    let m = g.B.ExprBuilder.meaning in
    let refusal = g.B.ExprBuilder.refusal in
    let both = flat_both refusal (λ e s. e ≡ s) (λ s. ⊥) (IsBuilt o m) (IsRefused o) c.args.name c.args.entity c.flatten_tuple_2.result w u c.flatten_tuple_2.ensures (found refusal (λ p. p) c.args.name w hw) hu in
    let k = c.in_ok-target in
    let h = flat_ok refusal (IsBuilt o m) (IsRefused o) (Both refusal (λ e s. e ≡ s) (λ s. ⊥) (IsBuilt o m) (IsRefused o)) (Either refusal (λ e s. e ≡ s) (λ s. ⊥) (IsBuilt o m) (IsRefused o)) c.args.target c.flatten_tuple_2.result (k.target, (k.name, k.entity)) v _ k.ensures hv both in
    let x = h.0.value in
    let p = h.1.value.0 in
    let y = h.1.value.1 in
    let type_is = sym (c.from.ensures ∙ h.1.stands.0) in
    took_some o m refusal c.taken.result _ (is_in p x y) _ (three v w u (λ x p y. Some (is_in p x y)) ∙ both_some v _ x h.1.value (λ x q. Some (is_in q.0 x q.1)) h.0.is h.1.is)
    (built_and o g.met.B.ExprBuilder.lawful (unary (tree.Is p) x) (binary tree.In x y) (o.apply (tree.Is p) (m k.target ∷ [])) (o.apply tree.In (m k.target ∷ m k.entity ∷ [])) (built_unary o (tree.Is p) x (m k.target) h.0.stands) (built_binary o tree.In x y (m k.target) (m k.entity) h.0.stands h.1.stands.1)
    ∙ ap (λ q. Ok (o.and (o.apply (tree.Is q) (m k.target ∷ [])) (o.apply tree.In (m k.target ∷ m k.entity ∷ [])))) type_is) (c.taken.ensures.taken _ c.is_in_entity_type.ensures)

pub returns-in_err-target-clause-shown : goal.returns-in_err-target-clause-shown
returns-in_err-target-clause-shown g c =
    by_both c.from_residual.result c.args.target c.flatten_tuple_2.result c.in_err-target.field-0.0 _ c.from_residual.ensures c.in_err-target.ensures (λ k t. inl t) (λ k t. inr (of_pair c.args.name c.args.entity c.flatten_tuple_2.result c.flatten_tuple_2.ensures k t))

pub returns-in_err-builder-clause-shown : goal.returns-in_err-builder-clause-shown
returns-in_err-builder-clause-shown g c =
    by_memory c.from_residual-in_err-builder.result c.in_err-builder.field-0.0 _ c.from_residual-in_err-builder.ensures c.in_err-builder.ensures

pub returns-clause-shown : goal.returns-clause-shown
returns-clause-shown g c = quiet c.taken.result _ c.taken.ensures.shown
