-- A path of one attribute is the plain test, a longer one the extended test; both hold the path's texts.
use Rattle.std.proofs.Common.{◌≡◌, Some, ◌∷◌, sym, ap, ◌∙◌, map, inl, inr}
use Rattle.std.specs.Rc.{rc_str_bytes}
use Rattle.cedar_language.specs.Tree as tree
use Rattle.cedar_grammar.specs.Build as build
use Rattle.cedar_grammar.specs.Build.{unary}
use Rattle.cedar_conversion.specs.Fields.{path_texts}
use Rattle.cedar_conversion.specs.Building.{IsBuilt, IsRefused}
use Rattle.cedar_conversion.proofs.Converting.{passed, found, both_some, flat_err, flat_ok}
use Rattle.cedar_conversion.proofs.Made.{took_some, built_unary, none_more, some_more, has_path}
use Rattle.cedar_conversion.proofs.Refusing.{refused_as, refused_has}
use Rattle.cedar_conversion.proofs.Told.{by_both, by_memory, quiet}
use Rattle.cedar_conversion.proofs.relations.has.Goals as goal

pub returns-in_err-target-clause-tree : goal.returns-in_err-target-clause-tree
returns-in_err-target-clause-tree g c v w hv hw =
    let o = g.B.ExprBuilder.operations in
    let m = g.B.ExprBuilder.meaning in
    let refusal = g.B.ExprBuilder.refusal in
    let e = c.in_err-target.field-0.0 in
    passed refusal (IsBuilt o m) (IsRefused o) c.from_residual.result e _ c.from_residual.ensures
    (flat_err refusal (IsBuilt o m) (IsRefused o) (λ e s. path_texts e ≡ s) (λ s. ⊥) (IsRefused o) (λ x s. Some (build.has s x))
    ((λ x s z is h. refused_as o (build.has s x) z is (refused_has o s x h)), (λ x s z is h. absurd h))
    c.args.target c.args.attrs e v w c.in_err-target.ensures hv (found refusal (path_texts) c.args.attrs w hw))

pub returns-then-is_empty-clause-tree : goal.returns-then-is_empty-clause-tree
returns-then-is_empty-clause-tree g c v w hv hw =
    let o = g.B.ExprBuilder.operations in
    let m = g.B.ExprBuilder.meaning in
    let refusal = g.B.ExprBuilder.refusal in
    let h = flat_ok refusal (IsBuilt o m) (IsRefused o) (λ e s. path_texts e ≡ s) (λ s. ⊥) c.args.target c.args.attrs (c.in_ok-target.target, c.in_ok-target.attrs) v w c.in_ok-target.ensures hv (found refusal path_texts c.args.attrs w hw) in
    let a = c.in_ok-target.attrs in
    let none = none_more a.tail (sym c.is_empty.ensures ∙ c.if-is_empty.true) in
    let x = h.0.value in
    let is = both_some v w x h.1.value (λ y ss. Some (build.has ss y)) h.0.is h.1.is ∙ ap (λ ss. Some (build.has ss x)) (sym h.1.stands ∙ ap (λ ts. rc_str_bytes a.head ∷ map rc_str_bytes ts) none) in
    took_some o m refusal c.taken.result _ (unary (tree.HasAttr (rc_str_bytes a.head)) x) _ is (built_unary o (tree.HasAttr (rc_str_bytes a.head)) x (m c.in_ok-target.target) h.0.stands) (c.taken.ensures.taken _ c.has_attr.ensures)

pub returns-else-is_empty-clause-tree : goal.returns-else-is_empty-clause-tree
returns-else-is_empty-clause-tree g c v w hv hw =
    let o = g.B.ExprBuilder.operations in
    let m = g.B.ExprBuilder.meaning in
    let refusal = g.B.ExprBuilder.refusal in
    let h = flat_ok refusal (IsBuilt o m) (IsRefused o) (λ e s. path_texts e ≡ s) (λ s. ⊥) c.args.target c.args.attrs (c.in_ok-target.target, c.in_ok-target.attrs) v w c.in_ok-target.ensures hv (found refusal path_texts c.args.attrs w hw) in
    let a = c.in_ok-target.attrs in
    let some = some_more a.tail (sym c.is_empty.ensures ∙ c.if-is_empty.false) in
    let x = h.0.value in
    let path = tree.HasPath (rc_str_bytes a.head) (map rc_str_bytes a.tail.items) in
    let is = both_some v w x h.1.value (λ y ss. Some (build.has ss y)) h.0.is h.1.is ∙ ap (λ ss. Some (build.has ss x)) (sym h.1.stands) ∙ ap Some (has_path rc_str_bytes (rc_str_bytes a.head) a.tail.items x some) in
    took_some o m refusal c.taken-else-is_empty.result _ (unary path x) _ is (built_unary o path x (m c.in_ok-target.target) h.0.stands) (c.taken-else-is_empty.ensures.taken _ c.extended_has_attr.ensures)

pub returns-in_err-target-clause-shown : goal.returns-in_err-target-clause-shown
returns-in_err-target-clause-shown g c =
    by_both c.from_residual.result c.args.target c.args.attrs c.in_err-target.field-0.0 _ c.from_residual.ensures c.in_err-target.ensures (λ k t. inl t) (λ k t. inr t)

pub returns-in_err-builder-clause-shown : goal.returns-in_err-builder-clause-shown
returns-in_err-builder-clause-shown g c =
    by_memory c.from_residual-in_err-builder.result c.in_err-builder.field-0.0 _ c.from_residual-in_err-builder.ensures c.in_err-builder.ensures

pub returns-then-is_empty-clause-shown : goal.returns-then-is_empty-clause-shown
returns-then-is_empty-clause-shown g c = quiet c.taken.result _ c.taken.ensures.shown

pub returns-else-is_empty-clause-shown : goal.returns-else-is_empty-clause-shown
returns-else-is_empty-clause-shown g c =
    quiet c.taken-else-is_empty.result _ c.taken-else-is_empty.ensures.shown
