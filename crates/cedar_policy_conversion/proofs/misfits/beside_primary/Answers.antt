-- A node is missing in an expression exactly where it is in what keeps a primary from standing alone there.
use Rattle.std.proofs.Common.{sym, ◌∙◌}
use Rattle.cedar_cst.specs.View.{shown_expr, shown_or, shown_and, shown_relation}
use Rattle.cedar_policy_conversion.proofs.Emptiness.{in_expr, in_or, in_and, no_and, no_relation, no_add}
use Rattle.cedar_policy_conversion.proofs.misfits.beside_primary.Goals as goal

pub returns-in_default-only_and : goal.returns-in_default-only_and
returns-in_default-only_and c =
    let o = c.in-Some.or.now in
    c.seen-in_default-only_and.ensures ∙ no_and o (sym c.in_default-only_and.ensures) ∙ sym (in_expr (shown_expr c.args.node.now) (shown_or o) (sym c.in-Some.ensures))

pub returns-in_default-only_relation : goal.returns-in_default-only_relation
returns-in_default-only_relation c =
    let o = c.in-Some.or.now in
    let a = c.in-Some-only_and.and.now in
    c.seen-in_default-only_relation.ensures ∙ no_relation a (sym c.in_default-only_relation.ensures)
    ∙ sym (in_or (shown_or o) (shown_and a) (sym c.in-Some-only_and.ensures)) ∙ sym (in_expr (shown_expr c.args.node.now) (shown_or o) (sym c.in-Some.ensures))

pub returns-in-None : goal.returns-in-None
returns-in-None c =
    let o = c.in-Some.or.now in
    let a = c.in-Some-only_and.and.now in
    let r = c.in-Some-only_relation.relation.now in
    c.seen-in-None.ensures ∙ no_add r (sym c.in-None.ensures) ∙ sym (in_and (shown_and a) (shown_relation r) (sym c.in-Some-only_relation.ensures))
    ∙ sym (in_or (shown_or o) (shown_and a) (sym c.in-Some-only_and.ensures)) ∙ sym (in_expr (shown_expr c.args.node.now) (shown_or o) (sym c.in-Some.ensures))
