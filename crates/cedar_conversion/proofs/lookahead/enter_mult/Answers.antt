-- A sum with a further summand has no lone one.
use Rattle.std.proofs.Common.{◌<◌, length, sym, ap, ◌∙◌}
use Rattle.std.specs.Prelude.{◌==◌}
use Rattle.cedar_grammar.specs.Loose as loose
use Rattle.cedar_cst.specs.LeafView.{view_add_op}
use Rattle.cedar_cst.specs.declared.cst.Add.{out-Add}
use Rattle.cedar_cst.specs.View.{view_add, shown_mult}
use Rattle.cedar_cst.proofs.Views.{seen, view_add_out}
use Rattle.cedar_conversion.specs.Alone.{only_mult}
use Rattle.cedar_conversion.proofs.Steps.{no_lone_mult, some_more}
use Rattle.cedar_conversion.proofs.lookahead.enter_mult.Goals as goal

pub returns-else-is_empty-clause-node : goal.returns-else-is_empty-clause-node
returns-else-is_empty-clause-node c =
    let t = c.in-Some.add in
    let v = (out-Add t).extended in
    let xs = v.items in
    let some : 0 < length xs = some_more xs (ap (λ n. n == 0) (sym v.ok.0) ∙ sym c.is_empty.ensures ∙ c.if-is_empty.false) in
    sym (ap only_mult (seen loose.missing_add view_add c.args.node.now t c.in-Some.is ∙ view_add_out t) ∙ no_lone_mult (shown_mult (out-Add t).initial) (λ x. (view_add_op x.0, shown_mult x.1)) xs some)
