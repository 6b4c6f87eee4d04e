-- The tree before the dot is all that is built so far, so it alone may be refused.
use Rattle.std.proofs.Common.{◌≡◌, Some, sym, ◌∙◌, subst, ◌⊎◌, ap}
use Rattle.cedar_grammar.specs.Steps.{◌>>=◌}
use Rattle.cedar_grammar.specs.Converting as converting
use Rattle.cedar_grammar.specs.Converting.{head_tree}
use Rattle.cedar_faults.specs.Reasons.{reason}
use Rattle.cedar_faults.specs.Converts.{Misses}
use Rattle.cedar_conversion.specs.Building.{IsBuilt, IsRefused}
use Rattle.cedar_conversion.specs.Heads.{IsHead, IsHeadRefused, given, head_shows}
use Rattle.cedar_conversion.proofs.Converting.{passed, found, both_some, flat_err, flat_ok, then_then}
use Rattle.std.specs.Prelude.{IfErr}
use Rattle.cedar_faults.specs.Telling.{Told, TellsOnly}
use Rattle.cedar_conversion.specs.Shows.{used_before}
use Rattle.cedar_faults.proofs.Telling.{handed_on}
use Rattle.cedar_conversion.proofs.Told.{flat_used, itself}
use Rattle.cedar_conversion.proofs.heads.attribute.Goals as goal

pub returns-in_err-expr-clause-head : goal.returns-in_err-expr-clause-head
returns-in_err-expr-clause-head g c v w hv hw =
    let o = g.B.ExprBuilder.operations in
    let m = g.B.ExprBuilder.meaning in
    let refusal = g.B.ExprBuilder.refusal in
    let e = c.in_err-expr.field-0.0 in
    passed refusal (IsHead o m) (IsHeadRefused o) c.from_residual.result e _ c.from_residual.ensures
    (subst (λ z. Misses (IsHeadRefused o) refusal (reason e) z) (sym (then_then v head_tree (λ a. w >>= λ s. Some (converting.an_attribute a s))))
    (flat_err refusal (IsBuilt o m) (IsRefused o) (λ e s. e ≡ s) (λ s. ⊥) (IsHeadRefused o) (λ a s. Some (converting.an_attribute a s))
    ((λ a s z is h. let same : converting.an_attribute a s ≡ z = cc is in subst (IsHeadRefused o) same h), (λ a s z is h. absurd h))
    c.used_to_expr-expr.result c.args.id e (v >>= head_tree) w c.in_err-expr.ensures (c.used_to_expr-expr.ensures.tree v hv) (found refusal (λ s. s) c.args.id w hw)))

pub returns-clause-head : goal.returns-clause-head
returns-clause-head g c v w hv hw =
    let o = g.B.ExprBuilder.operations in
    let m = g.B.ExprBuilder.meaning in
    let refusal = g.B.ExprBuilder.refusal in
    let h = flat_ok refusal (IsBuilt o m) (IsRefused o) (λ e s. e ≡ s) (λ s. ⊥) c.used_to_expr-expr.result c.args.id (c.in_ok-expr.expr, c.in_ok-expr.id) (v >>= head_tree) w c.in_ok-expr.ensures (c.used_to_expr-expr.ensures.tree v hv) (found refusal (λ s. s) c.args.id w hw) in
    record {
      value = converting.an_attribute h.0.value h.1.value;
      is = then_then v head_tree (λ a. w >>= λ s. Some (converting.an_attribute a s)) ∙ both_some (v >>= head_tree) w h.0.value h.1.value (λ a s. Some (converting.an_attribute a s)) h.0.is h.1.is;
      stands = (h.0.stands, h.1.stands);
    }

pub returns-in_err-expr-clause-shown : goal.returns-in_err-expr-clause-shown
returns-in_err-expr-clause-shown g c w hw =
    let u = c.use_of.result in
    handed_on c.from_residual.result c.in_err-expr.field-0.0 _ c.from_residual.ensures
    (flat_used c.used_to_expr-expr.result c.args.id c.in_err-expr.field-0.0 (λ s. s) w (Told c.args.head) (λ v. head_shows (used_before c.args.is_called v) c.args.head) c.in_err-expr.ensures hw
    (subst (λ z. IfErr c.used_to_expr-expr.result (λ e. TellsOnly e (λ k. Told c.args.head k ⊎ head_shows z c.args.head k))) (c.use_of.ensures ∙ ap (used_before c.args.is_called) (itself (given c.args.id))) c.used_to_expr-expr.ensures.shown))
