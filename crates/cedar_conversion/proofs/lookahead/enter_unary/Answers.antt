-- A product with a further factor has no lone one.
use Rattle.std.proofs.Common.{◌<◌, length, sym, ap, ◌∙◌}
use Rattle.std.specs.Prelude.{◌==◌}
use Rattle.cedar_grammar.specs.Loose as loose
use Rattle.cedar_cst.specs.LeafView.{view_mult_op}
use Rattle.cedar_cst.specs.declared.cst.Mult.{out-Mult}
use Rattle.cedar_cst.specs.View.{view_mult, shown_unary}
use Rattle.cedar_cst.proofs.Views.{seen, view_mult_out}
use Rattle.cedar_conversion.specs.Alone.{only_unary}
use Rattle.cedar_conversion.proofs.Steps.{no_lone_unary, some_more}
use Rattle.cedar_conversion.proofs.lookahead.enter_unary.Goals as goal

pub returns-else-is_empty-clause-node : goal.returns-else-is_empty-clause-node
returns-else-is_empty-clause-node c =
    let t = c.in-Some.mult in
    let v = (out-Mult t).extended in
    let xs = v.items in
    let some : 0 < length xs = some_more xs (ap (λ n. n == 0) (sym v.ok.0) ∙ sym c.is_empty.ensures ∙ c.if-is_empty.false) in
    sym (ap only_unary (seen loose.missing_mult view_mult c.args.node.now t c.in-Some.is ∙ view_mult_out t) ∙ no_lone_unary (shown_unary (out-Mult t).initial) (λ x. (view_mult_op x.0, shown_unary x.1)) xs some)
