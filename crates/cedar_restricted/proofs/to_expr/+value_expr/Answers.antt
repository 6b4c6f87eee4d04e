-- Members are written one by one, each weighing less than what holds it; a record keeps the order of its keys.
use Rattle.std.proofs.Common.{◌≡◌, ◌∙◌, ap, [], map, drop, arith}
use Rattle.std.proofs.lemmas.Grind.{common_steps}
use Rattle.cedar_language.specs.Order.{all_of}
use Rattle.cedar_values.specs.Kinds.{values_of}
use Rattle.cedar_values.specs.Sizes.{weigh_all}
use Rattle.cedar_restricted.proofs.Rising.{keys_are, texts_end, put_next, texts_next, trees_next}
use Rattle.cedar_restricted.proofs.Writing.{goes_on, all_written, member_weighs_less}
use Rattle.cedar_restricted.proofs.to_expr.+value_expr.Goals as goal

pub field_exprs-value_expr-requires : goal.field_exprs-value_expr-requires
field_exprs-value_expr-requires t c =
    let cut = ap (λ es. weigh_all (values_of es)) c.in-Some.ensures.steps in
    (omega (arith, cut, c.loop-key.invariant.3, c.decreases), tt)

pub field_exprs-loop-key-preserved-in_ok-insert : goal.field_exprs-loop-key-preserved-in_ok-insert
field_exprs-loop-key-preserved-in_ok-insert t c =
    let put = put_next c.loop-key.exprs.entries c.insert.new.self.entries c.loop-key.key-iterator c.next.new.self c.args.fields.now.entries c.in_ok-clone.field-0 c.in-Some.key.now c.in_ok-expr.expr c.in-Some.value.now c.in_ok-insert.ensures.entries c.in_ok-clone.ensures.cases c.loop-key.invariant.2 c.in-Some.ensures.steps c.into_iter-key-iterator.ensures.into_iter_gives.5 in
    let more = trees_next c.loop-key.exprs.entries c.insert.new.self.entries c.in_ok-clone.field-0 c.in_ok-expr.expr put in
    let cut = ap (λ es. weigh_all (values_of es)) c.in-Some.ensures.steps in (
      tt,
      tt,
      texts_next c.loop-key.exprs.entries c.insert.new.self.entries c.loop-key.key-iterator c.next.new.self c.args.fields.now.entries c.in_ok-clone.field-0 c.in-Some.key.now c.in_ok-expr.expr c.in-Some.value.now put c.in_ok-clone.ensures.cases c.loop-key.invariant.2 c.in-Some.ensures.steps,
      omega (arith, cut, c.loop-key.invariant.3),
      goes_on _ _ _ _ _ _ _ c.loop-key.invariant.4 (ap (map (λ e. e.1)) c.in-Some.ensures.steps) c.in_ok-expr.ensures more,
    )

pub field_exprs-loop-key-preserved : goal.field_exprs-loop-key-preserved
field_exprs-loop-key-preserved t c =
    let put = put_next c.loop-key.exprs.entries c.insert.new.self.entries c.loop-key.key-iterator c.next.new.self c.args.fields.now.entries c.in_ok-clone.field-0 c.in-Some.key.now c.in_ok-expr.expr c.in-Some.value.now c.in_ok-insert.ensures.entries c.in_ok-clone.ensures.cases c.loop-key.invariant.2 c.in-Some.ensures.steps c.into_iter-key-iterator.ensures.into_iter_gives.5 in
    let more = trees_next c.loop-key.exprs.entries c.insert.new.self.entries c.in_ok-clone.field-0 c.in_ok-expr.expr put in
    let cut = ap (λ es. weigh_all (values_of es)) c.in-Some.ensures.steps in (
      tt,
      tt,
      texts_next c.loop-key.exprs.entries c.insert.new.self.entries c.loop-key.key-iterator c.next.new.self c.args.fields.now.entries c.in_ok-clone.field-0 c.in-Some.key.now c.in_ok-expr.expr c.in-Some.value.now put c.in_ok-clone.ensures.cases c.loop-key.invariant.2 c.in-Some.ensures.steps,
      omega (arith, cut, c.loop-key.invariant.3),
      goes_on _ _ _ _ _ _ _ c.loop-key.invariant.4 (ap (map (λ e. e.1)) c.in-Some.ensures.steps) c.in_ok-expr.ensures more,
    )

pub field_exprs-returns-clause-keys : goal.field_exprs-returns-clause-keys
field_exprs-returns-clause-keys t c = keys_are c.loop-key.exprs.entries ∙ texts_end c.loop-key.exprs.entries c.loop-key.key-iterator c.args.fields.now.entries c.loop-key.invariant.2 c.in-None.ensures.steps.0

pub field_exprs-returns-clause-values : goal.field_exprs-returns-clause-values
field_exprs-returns-clause-values t c = all_written _ _ _ c.loop-key.invariant.4 (ap (map (λ e. e.1)) c.in-None.ensures.steps.0)

pub member_exprs-value_expr-requires : goal.member_exprs-value_expr-requires
member_exprs-value_expr-requires t c =
    let lighter = member_weighs_less c.authoritative-member-items.result.now c.loop-member.member-index c.member-item.result c.loop-member-test.true c.member-item.is in
    let same = ap (λ vs. weigh_all (all_of vs)) c.authoritative-member-items.ensures.members in
    (omega (arith, lighter, same, c.decreases), tt)

pub member_exprs-returns : goal.member_exprs-returns
member_exprs-returns t c =
    let none : drop c.loop-member.member-index c.authoritative-member-items.result.now ≡ [] = grind (arith, common_steps) in
    all_written _ _ _ c.loop-member.invariant none
