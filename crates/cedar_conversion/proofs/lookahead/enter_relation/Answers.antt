-- A chain of `&&` with a further operand has no lone one.
use Rattle.std.proofs.Common.{◌<◌, length, sym, ap, ◌∙◌}
use Rattle.std.specs.Prelude.{◌==◌}
use Rattle.cedar_grammar.specs.Loose as loose
use Rattle.cedar_cst.specs.declared.cst.And.{out-And}
use Rattle.cedar_cst.specs.View.{view_and, shown_relation}
use Rattle.cedar_cst.proofs.Views.{seen, view_and_out}
use Rattle.cedar_conversion.specs.Alone.{only_relation}
use Rattle.cedar_conversion.proofs.Steps.{no_lone_relation, some_more}
use Rattle.cedar_conversion.proofs.lookahead.enter_relation.Goals as goal

pub returns-else-is_empty-clause-node : goal.returns-else-is_empty-clause-node
returns-else-is_empty-clause-node c =
    let t = c.in-Some.and in
    let v = (out-And t).extended in
    let xs = v.items in
    let some : 0 < length xs = some_more xs (ap (λ n. n == 0) (sym v.ok.0) ∙ sym c.is_empty.ensures ∙ c.if-is_empty.false) in
    sym (ap only_relation (seen loose.missing_and view_and c.args.node.now t c.in-Some.is ∙ view_and_out t) ∙ no_lone_relation (shown_relation (out-And t).initial) shown_relation xs some)
