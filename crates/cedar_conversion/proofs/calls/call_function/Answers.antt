-- What is called is the path of the written name, where the table of names has that path.
use Rattle.std.proofs.Common.{Some, None, sym, ap, ◌∙◌, ◌≡◌, false, inl, inr}
use Rattle.std.specs.Prelude.{cond}
use Rattle.cedar_language.specs.Tree as tree
use Rattle.cedar_grammar.specs.Build.{trees}
use Rattle.cedar_grammar.specs.Names.{is_function}
use Rattle.cedar_grammar.specs.Converting.{name_path, name_variable}
use Rattle.cedar_cst.specs.LeafView.{shown_name}
use Rattle.cedar_conversion.proofs.Converting.{then_some}
use Rattle.cedar_conversion.proofs.Made.{took_some, built_apply}
use Rattle.cedar_conversion.specs.Choices.{IsNoFunction}
use Rattle.cedar_faults.proofs.Telling.{handed_on, tells_more}
use Rattle.cedar_conversion.proofs.Told.{in_some, by_memory, quiet}
use Rattle.cedar_conversion.proofs.calls.call_function.Goals as goal

pub returns-clause-tree : goal.returns-clause-tree
returns-clause-tree g c xs hxs =
    let o = g.B.ExprBuilder.operations in
    let m = g.B.ExprBuilder.meaning in
    let refusal = g.B.ExprBuilder.refusal in
    let f = c.in_ok-function.function in
    let names = c.args.styles.now in
    let is = then_some (name_path (shown_name c.args.name.now)) f (λ p. cond (is_function names p) (Some (tree.Apply (tree.Call p) (trees xs))) None) c.in_ok-function.ensures.name
    ∙ ap (λ b. cond b (Some (tree.Apply (tree.Call f) (trees xs))) None) (sym c.is_function.ensures ∙ c.if-not-is_function.false) in
    took_some o m refusal c.taken.result _ (tree.Apply (tree.Call f) (trees xs)) _ is (built_apply o (tree.Call f) xs _ hxs) (c.taken.ensures.taken _ c.call_extension_fn.ensures)

pub returns-in_err-function-clause-shown : goal.returns-in_err-function-clause-shown
returns-in_err-function-clause-shown g c =
    handed_on c.from_residual.result _ _ c.from_residual.ensures (tells_more _ _ _ (λ k s. inl s) c.in_err-function.ensures.shown)

pub returns-then-not-is_function-clause-shown : goal.returns-then-not-is_function-clause-shown
returns-then-not-is_function-clause-shown g c =
    let f = c.in_ok-function.function in
    tells_more _ _ _ (λ k s. inr (in_some (λ path. (is_function c.args.styles.now path ≡ false) × IsNoFunction c.args.styles.now (name_variable (shown_name c.args.name.now)) path k) _ f c.in_ok-function.ensures.name (sym c.is_function.ensures ∙ c.if-not-is_function.true, s))) c.no_function.ensures.kind

pub returns-in_err-builder-clause-shown : goal.returns-in_err-builder-clause-shown
returns-in_err-builder-clause-shown g c =
    by_memory c.from_residual-in_err-builder.result c.in_err-builder.field-0.0 _ c.from_residual-in_err-builder.ensures c.in_err-builder.ensures

pub returns-clause-shown : goal.returns-clause-shown
returns-clause-shown g c = quiet c.taken.result _ c.taken.ensures.shown
