-- The text between the brackets is the attribute, read of the tree that the head is used as.
use Rattle.std.proofs.Common.{◌≡◌, Some, Ok, [], ◌∷◌, sym, ap, ◌∙◌, subst, ◌⊎◌}
use Rattle.std.specs.Rc.{rc_str_bytes}
use Rattle.cedar_language.specs.Tree as tree
use Rattle.cedar_grammar.specs.Steps.{◌>>=◌}
use Rattle.cedar_grammar.specs.Build.{unary}
use Rattle.cedar_grammar.specs.Converting as converting
use Rattle.cedar_grammar.specs.Converting.{head_tree}
use Rattle.cedar_faults.specs.Reasons.{reason}
use Rattle.cedar_faults.specs.Converts.{Misses}
use Rattle.cedar_conversion.specs.Building.{IsBuilt, IsRefused}
use Rattle.cedar_conversion.specs.Heads.{IsHead, IsHeadRefused, head_shows}
use Rattle.cedar_conversion.proofs.Converting.{same_as, passed, found, both_some, flat_err, flat_ok, then_then}
use Rattle.cedar_conversion.proofs.Made.{took, built_unary}
use Rattle.cedar_conversion.proofs.Refusing.{tree_head, refused_as, refused_unary}
use Rattle.std.specs.Prelude.{IfErr}
use Rattle.cedar_faults.specs.Telling.{Told, TellsOnly}
use Rattle.cedar_conversion.specs.Shows.{used_at}
use Rattle.cedar_faults.proofs.Telling.{handed_on}
use Rattle.cedar_conversion.proofs.Told.{flat_used, by_memory, quiet_part}
use Rattle.cedar_conversion.proofs.heads.index.Goals as goal

pub returns-in_err-expr-clause-head : goal.returns-in_err-expr-clause-head
returns-in_err-expr-clause-head g c v w hv hw =
    let o = g.B.ExprBuilder.operations in
    let m = g.B.ExprBuilder.meaning in
    let refusal = g.B.ExprBuilder.refusal in
    let e = c.in_err-expr.field-0.0 in
    passed refusal (IsHead o m) (IsHeadRefused o) c.from_residual.result e _ c.from_residual.ensures
    (subst (λ z. Misses (IsHeadRefused o) refusal (reason e) z) (sym (then_then v head_tree (λ a. w >>= λ s. Some (converting.a_tree (unary (tree.GetAttr s) a)))))
    (flat_err refusal (IsBuilt o m) (IsRefused o) (λ e s. rc_str_bytes e ≡ s) (λ s. ⊥) (IsHeadRefused o) (λ a s. Some (converting.a_tree (unary (tree.GetAttr s) a)))
    ((λ a s z is h. tree_head o (Some (unary (tree.GetAttr s) a)) z is (λ y same. refused_as o (unary (tree.GetAttr s) a) y same (refused_unary o (tree.GetAttr s) a h))), (λ a s z is h. absurd h))
    c.used_to_expr-expr.result c.args.text e (v >>= head_tree) w c.in_err-expr.ensures (c.used_to_expr-expr.ensures.tree v hv) (found refusal rc_str_bytes c.args.text w hw)))

pub returns-clause-head : goal.returns-clause-head
returns-clause-head g c v w hv hw =
    let o = g.B.ExprBuilder.operations in
    let m = g.B.ExprBuilder.meaning in
    let refusal = g.B.ExprBuilder.refusal in
    let h = flat_ok refusal (IsBuilt o m) (IsRefused o) (λ e s. rc_str_bytes e ≡ s) (λ s. ⊥) c.used_to_expr-expr.result c.args.text (c.in_ok-expr.expr, c.in_ok-expr.text) (v >>= head_tree) w c.in_ok-expr.ensures (c.used_to_expr-expr.ensures.tree v hv) (found refusal rc_str_bytes c.args.text w hw) in
    let t = unary (tree.GetAttr h.1.value) h.0.value in
    same_as refusal (IsHead o m) (IsHeadRefused o) c.expr_to_head.result _ _ (then_then v head_tree (λ a. w >>= λ s. Some (converting.a_tree (unary (tree.GetAttr s) a))) ∙ both_some (v >>= head_tree) w h.0.value h.1.value (λ a s. Some (converting.a_tree (unary (tree.GetAttr s) a))) h.0.is h.1.is)
    (c.expr_to_head.ensures.head (Some t) (took o m refusal c.taken.result _ t (built_unary o (tree.GetAttr h.1.value) h.0.value (m c.in_ok-expr.expr) h.0.stands ∙ ap (λ s. Ok (o.apply (tree.GetAttr s) (m c.in_ok-expr.expr ∷ []))) (sym h.1.stands)) (c.taken.ensures.taken _ c.get_attr.ensures)))

pub returns-in_err-expr-clause-shown : goal.returns-in_err-expr-clause-shown
returns-in_err-expr-clause-shown g c w hw =
    handed_on c.from_residual.result c.in_err-expr.field-0.0 _ c.from_residual.ensures
    (flat_used c.used_to_expr-expr.result c.args.text c.in_err-expr.field-0.0 rc_str_bytes w (Told c.args.head) (λ v. head_shows (used_at v) c.args.head) c.in_err-expr.ensures hw
    (subst (λ z. IfErr c.used_to_expr-expr.result (λ e. TellsOnly e (λ k. Told c.args.head k ⊎ head_shows z c.args.head k))) c.use_by_text.ensures c.used_to_expr-expr.ensures.shown))

pub returns-in_err-builder-clause-shown : goal.returns-in_err-builder-clause-shown
returns-in_err-builder-clause-shown g c w hw =
    by_memory c.from_residual-in_err-builder.result c.in_err-builder.field-0.0 _ c.from_residual-in_err-builder.ensures c.in_err-builder.ensures

pub returns-clause-shown : goal.returns-clause-shown
returns-clause-shown g c w hw =
    quiet_part c.expr_to_head.result c.taken.result _ c.expr_to_head.ensures.shown c.taken.ensures.shown
