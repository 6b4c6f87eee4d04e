-- As many arguments are built as trees stand there, so that there is one argument where there is one tree.
use Rattle.std.proofs.Common.{◌≡◌, Ok, [], ◌∷◌, length, sym, ap, ◌∙◌, map}
use Rattle.std.proofs.lemmas.List.{length-map}
use Rattle.cedar_literals.specs.Operators.{binary_operator_of}
use Rattle.cedar_grammar.specs.Build.{binary, with_argument}
use Rattle.cedar_conversion.specs.Building.{IsRefused}
use Rattle.cedar_conversion.proofs.Converting.{faulty}
use Rattle.cedar_conversion.proofs.Made.{took_some, built_binary, built_length, one_built, binary_operands, not_one_argument}
use Rattle.cedar_conversion.proofs.Told.{by_memory, quiet}
use Rattle.cedar_conversion.proofs.calls.with_argument.Goals as goal

pub returns-in_ok-builder-in-Some-clause-tree : goal.returns-in_ok-builder-in-Some-clause-tree
returns-in_ok-builder-in-Some-clause-tree g c t xs ht hxs =
    let o = g.B.ExprBuilder.operations in
    let m = g.B.ExprBuilder.meaning in
    let refusal = g.B.ExprBuilder.refusal in
    let one = one_built o xs (m c.in-Some.arg) (hxs ∙ ap (λ ys. Ok (map m ys)) c.in-Some.ensures) in
    let op = binary_operator_of c.args.op in
    took_some o m refusal c.taken.result _ (binary op t one.0) _ (ap (with_argument op t) one.1) (built_binary o op t one.0 (m c.args.expr) (m c.in-Some.arg) ht one.2 ∙ binary_operands o c.args.op (m c.args.expr ∷ m c.in-Some.arg ∷ [])) (c.taken.ensures.taken _ c.binary_app.ensures)

pub returns-in-None-clause-tree : goal.returns-in-None-clause-tree
returns-in-None-clause-tree g c t xs ht hxs =
    let o = g.B.ExprBuilder.operations in
    let m = g.B.ExprBuilder.meaning in
    let refusal = g.B.ExprBuilder.refusal in
    let same : length xs ≡ length c.args.args.items = built_length o xs _ hxs ∙ length-map c.args.args.items m in
    faulty g.B.ExprBuilder.refusal (IsRefused g.B.ExprBuilder.operations) c.fault.result _ c.fault.ensures.fault (not_one_argument (binary_operator_of c.args.op) t xs (λ h. c.in-None.ensures (sym same ∙ h)))

pub returns-in_err-builder-in-Some-clause-shown : goal.returns-in_err-builder-in-Some-clause-shown
returns-in_err-builder-in-Some-clause-shown g c =
    by_memory c.from_residual.result c.in_err-builder-in-Some.field-0.0 _ c.from_residual.ensures c.in_err-builder-in-Some.ensures

pub returns-in_ok-builder-in-Some-clause-shown : goal.returns-in_ok-builder-in-Some-clause-shown
returns-in_ok-builder-in-Some-clause-shown g c = quiet c.taken.result _ c.taken.ensures.shown
