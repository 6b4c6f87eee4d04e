-- A method of the table is the function of its name, called with the operand before the arguments.
use Rattle.std.proofs.Common.{◌≡◌, Some, None, [], ◌∷◌, sym, ap, ◌∙◌, map, rules}
use Rattle.std.specs.Prelude.{cond}
use Rattle.cedar_language.specs.Tree as tree
use Rattle.cedar_grammar.specs.Build.{trees}
use Rattle.cedar_conversion.proofs.Made.{took_some, built_apply, built_more}
use Rattle.cedar_faults.proofs.Telling.{tells_more}
use Rattle.cedar_conversion.proofs.Told.{by_memory, quiet}
use Rattle.cedar_conversion.proofs.calls.call_table_method.Goals as goal

pub returns-clause-tree : goal.returns-clause-tree
returns-clause-tree g c t xs ht hxs =
    let o = g.B.ExprBuilder.operations in
    let m = g.B.ExprBuilder.meaning in
    let refusal = g.B.ExprBuilder.refusal in
    let id = c.args.id in
    let more : c.insert.new.self.items ≡ c.args.expr ∷ c.args.args.items = search rules in
    let named : c.in_ok-function.function ≡ id ∷ [] = search rules in
    let is = ap (λ b. cond b (Some (tree.Apply (tree.Call (id ∷ [])) (trees (t ∷ xs)))) None) (sym c.is_method.ensures ∙ c.if-not-is_method.false) in
    took_some o m refusal c.taken.result _ (tree.Apply (tree.Call (id ∷ [])) (trees (t ∷ xs))) _ is
    (built_apply o (tree.Call (id ∷ [])) (t ∷ xs) _ (built_more o t xs (m c.args.expr) (map m c.args.args.items) ht hxs) ∙ ap (λ ys. o.call (id ∷ []) (map m ys)) (sym more) ∙ ap (λ f. o.call f (map m c.insert.new.self.items)) (sym named))
    (c.taken.ensures.taken _ c.call_extension_fn.ensures)

pub returns-then-not-is_method-clause-shown : goal.returns-then-not-is_method-clause-shown
returns-then-not-is_method-clause-shown g c =
    tells_more _ _ _ (λ k s. (sym c.is_method.ensures ∙ c.if-not-is_method.true, s)) c.no_method.ensures.kind

pub returns-in_err-builder-clause-shown : goal.returns-in_err-builder-clause-shown
returns-in_err-builder-clause-shown g c =
    by_memory c.from_residual-in_err-builder.result c.in_err-builder.field-0.0 _ c.from_residual-in_err-builder.ensures c.in_err-builder.ensures

pub returns-clause-shown : goal.returns-clause-shown
returns-clause-shown g c = quiet c.taken.result _ c.taken.ensures.shown
