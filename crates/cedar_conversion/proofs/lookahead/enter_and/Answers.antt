-- A chain of `||` with a further operand has no lone one.
use Rattle.std.proofs.Common.{◌<◌, length, sym, ap, ◌∙◌}
use Rattle.std.specs.Prelude.{◌==◌}
use Rattle.cedar_grammar.specs.Loose as loose
use Rattle.cedar_cst.specs.declared.cst.Or.{out-Or}
use Rattle.cedar_cst.specs.View.{view_or, shown_and}
use Rattle.cedar_cst.proofs.Views.{seen, view_or_out}
use Rattle.cedar_conversion.specs.Alone.{only_and}
use Rattle.cedar_conversion.proofs.Steps.{no_lone_and, some_more}
use Rattle.cedar_conversion.proofs.lookahead.enter_and.Goals as goal

pub returns-else-is_empty-clause-node : goal.returns-else-is_empty-clause-node
returns-else-is_empty-clause-node c =
    let t = c.in-Some.or in
    let v = (out-Or t).extended in
    let xs = v.items in
    let some : 0 < length xs = some_more xs (ap (λ n. n == 0) (sym v.ok.0) ∙ sym c.is_empty.ensures ∙ c.if-is_empty.false) in
    sym (ap only_and (seen loose.missing_or view_or c.args.node.now t c.in-Some.is ∙ view_or_out t) ∙ no_lone_and (shown_and (out-Or t).initial) shown_and xs some)
