-- A node is missing in a sum exactly where it is in what keeps a primary from standing alone there.
use Rattle.std.proofs.Common.{sym, ◌∙◌}
use Rattle.cedar_cst.specs.View.{shown_add, shown_mult, shown_unary, shown_member}
use Rattle.cedar_policy_conversion.proofs.Emptiness.{in_add, in_mult, in_unary, no_mult, no_unary, no_member, a_member}
use Rattle.cedar_policy_conversion.proofs.misfits.inside_sum.Goals as goal

pub returns-in_default : goal.returns-in_default
returns-in_default c = c.seen.ensures ∙ no_mult c.args.node.now (sym c.in_default.ensures)

pub returns-in_default-only_unary : goal.returns-in_default-only_unary
returns-in_default-only_unary c =
    let m = c.in-Some.mult.now in
    c.seen-in_default-only_unary.ensures ∙ no_unary m (sym c.in_default-only_unary.ensures) ∙ sym (in_add (shown_add c.args.node.now) (shown_mult m) (sym c.in-Some.ensures))

pub returns-in-Some-unsigned : goal.returns-in-Some-unsigned
returns-in-Some-unsigned c =
    let m = c.in-Some.mult.now in
    let u = c.in-Some-only_unary.unary.now in
    let n = c.in-Some-unsigned.member.now in
    c.seen-in-Some-unsigned.ensures ∙ a_member n ∙ sym (in_unary (shown_unary u) (shown_member n) (sym c.in-Some-unsigned.ensures))
    ∙ sym (in_mult (shown_mult m) (shown_unary u) (sym c.in-Some-only_unary.ensures)) ∙ sym (in_add (shown_add c.args.node.now) (shown_mult m) (sym c.in-Some.ensures))

pub returns-in-None : goal.returns-in-None
returns-in-None c =
    let m = c.in-Some.mult.now in
    let u = c.in-Some-only_unary.unary.now in
    c.seen-in-None.ensures ∙ no_member u (sym c.in-None.ensures)
    ∙ sym (in_mult (shown_mult m) (shown_unary u) (sym c.in-Some-only_unary.ensures)) ∙ sym (in_add (shown_add c.args.node.now) (shown_mult m) (sym c.in-Some.ensures))
