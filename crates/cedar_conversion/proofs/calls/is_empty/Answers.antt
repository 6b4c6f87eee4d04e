-- Arguments are none exactly where trees are none, and only then has `isEmpty` a tree.
use Rattle.std.proofs.Common.{◌≡◌, ◌<◌, Ok, [], length, sym, ap, ◌∙◌, map, arith}
use Rattle.std.proofs.lemmas.List.{length-map}
use Rattle.cedar_language.specs.Tree as tree
use Rattle.cedar_grammar.specs.Build.{unary, without_argument}
use Rattle.cedar_conversion.specs.Building.{IsRefused}
use Rattle.cedar_conversion.proofs.Converting.{faulty}
use Rattle.cedar_conversion.proofs.Made.{took_some, built_unary, built_length, nothing_built, some_arguments, none_more, some_more}
use Rattle.cedar_conversion.proofs.Told.{by_memory, quiet}
use Rattle.cedar_conversion.proofs.calls.is_empty.Goals as goal

pub returns-then-is_empty-clause-tree : goal.returns-then-is_empty-clause-tree
returns-then-is_empty-clause-tree g c t xs ht hxs =
    let o = g.B.ExprBuilder.operations in
    let m = g.B.ExprBuilder.meaning in
    let refusal = g.B.ExprBuilder.refusal in
    let none = none_more c.args.args (sym c.is_empty.ensures ∙ c.if-is_empty.true) in
    let no_trees : xs ≡ [] = nothing_built o xs (hxs ∙ ap (λ ys. Ok (map m ys)) none) in
    took_some o m refusal c.taken.result _ (unary tree.IsEmpty t) _ (ap (without_argument tree.IsEmpty t) no_trees) (built_unary o tree.IsEmpty t (m c.args.expr) ht) (c.taken.ensures.taken _ c.is_empty-then-is_empty.ensures)

pub returns-clause-tree : goal.returns-clause-tree
returns-clause-tree g c t xs ht hxs =
    let o = g.B.ExprBuilder.operations in
    let m = g.B.ExprBuilder.meaning in
    let refusal = g.B.ExprBuilder.refusal in
    let some = some_more c.args.args (sym c.is_empty.ensures ∙ c.if-is_empty.false) in
    let same : length xs ≡ length c.args.args.items = built_length o xs _ hxs ∙ length-map c.args.args.items m in
    let more : 0 < length xs = omega (arith, some, same) in
    faulty g.B.ExprBuilder.refusal (IsRefused g.B.ExprBuilder.operations) c.fault.result _ c.fault.ensures.fault (some_arguments tree.IsEmpty t xs more)

pub returns-in_err-builder-clause-shown : goal.returns-in_err-builder-clause-shown
returns-in_err-builder-clause-shown g c =
    by_memory c.from_residual.result c.in_err-builder.field-0.0 _ c.from_residual.ensures c.in_err-builder.ensures

pub returns-then-is_empty-clause-shown : goal.returns-then-is_empty-clause-shown
returns-then-is_empty-clause-shown g c = quiet c.taken.result _ c.taken.ensures.shown
