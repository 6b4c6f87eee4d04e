-- A chain of comparisons with a further operand has no lone one.
use Rattle.std.proofs.Common.{◌<◌, length, sym, ap, ◌∙◌}
use Rattle.std.specs.Prelude.{◌==◌}
use Rattle.cedar_grammar.specs.Loose as loose
use Rattle.cedar_cst.specs.LeafView.{view_rel_op}
use Rattle.cedar_cst.specs.View.{view_relation, shown_add}
use Rattle.cedar_cst.proofs.Views.{seen, view_relation_common}
use Rattle.cedar_conversion.specs.Alone.{only_add}
use Rattle.cedar_conversion.proofs.Steps.{no_lone_add, some_more}
use Rattle.cedar_conversion.proofs.lookahead.enter_add.Goals as goal

pub returns-else-is_empty-clause-node : goal.returns-else-is_empty-clause-node
returns-else-is_empty-clause-node c =
    let t = c.in-Some.relation in
    let v = c.in-Common.extended in
    let xs = v.items in
    let some : 0 < length xs = some_more xs (ap (λ n. n == 0) (sym v.ok.0) ∙ sym c.is_empty.ensures ∙ c.if-is_empty.false) in
    sym (ap only_add (seen loose.missing_relation view_relation c.args.node.now t c.in-Some.is ∙ view_relation_common t c.in-Common.initial c.in-Common.extended c.in-Common.is) ∙ no_lone_add (shown_add c.in-Common.initial.value) (λ x. (view_rel_op x.0, shown_add x.1)) xs some)
