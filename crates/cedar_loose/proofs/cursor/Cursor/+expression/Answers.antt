-- Each rule is read step by step; of chains and lists, what is read and what the fewer tokens left give is all.
use Rattle.std.proofs.Common.{◌-◌, Ok, map, sym, ap, ◌∙◌}
use Rattle.std.proofs.lemmas.Result.{err_from_is_err_and}
use Rattle.std.proofs.lemmas.List.{map_push}
use Rattle.cedar_tokens.specs.View.{mark_view}
use Rattle.cedar_grammar.specs.Token as token
use Rattle.cedar_grammar.specs.Steps.{eat, word_read}
use Rattle.cedar_grammar.specs.Loose as loose
use Rattle.cedar_grammar.specs.LooseReading.{◌>>◌, mapped, needed, links_of, chain_of, items_of, each_of, or_op, and_op, rel_op, add_op, mult_op, begins_access, or_of, and_of, relation_of, add_of, mult_of, unary_of, primary_of, access_of, rec_init_of, choice_of, expr_at}
use Rattle.cedar_grammar.proofs.Rests.{and-leaves, relation-leaves, add-leaves, mult-leaves, unary-leaves, rec_init-leaves, expr_at-leaves}
use Rattle.cedar_cst.specs.View.{shown_expr, shown_and, shown_relation, shown_add, shown_mult, shown_unary, shown_mem_access, shown_primary, shown_rec_init}
use Rattle.cedar_loose.specs.Links.{linked_add, linked_mult, linked_unary}
use Rattle.cedar_loose.specs.Steps.{is_of, comparisons_of, closed_by}
use Rattle.cedar_loose.proofs.Loops.{mapped_fails, first_fails, then_fails, then_ok, made, links_start, links_done, links_fail, links_fewer, links_more, chain_fails, chained_done, chained_fail, alone, map_alone, items_start, items_closed, items_fail, items_last, items_comma_fails, items_fewer, items_more, each_start, each_done, each_fail, each_more}
use Rattle.cedar_loose.proofs.Cases.{fails_as, gives_as, expr_at_none, expr_at_if, expr_at_or, relation_first_fails, relation_by_has, relation_by_like, relation_by_is, relation_by_common, index_of, access_field, access_by_call, access_by_index, primary_paren, primary_by_list, primary_by_record, member_first_fails, member_then_fails, member_done, access_fewer}
use Rattle.cedar_loose.proofs.cursor.Cursor.+expression.Goals as goal

pub or-links-init : goal.or-links-init
or-links-init t c = rw c.new-extended.ensures.items (links_start or_op (and_of (expr_at c.args.depth)) c.and.new.self)

pub or-returns-in_err-first : goal.or-returns-in_err-first
unfolding or_of
or-returns-in_err-first t c =
    let p = err_from_is_err_and c.from_residual.result c.from_residual.ensures.1 in
    rw (p.1, p.2) (mapped_fails c.in_err-first.field-0.0 (or_of (expr_at c.args.depth) c.args.self.now) loose.or_expr (mapped_fails c.in_err-first.field-0.0 (chain_of or_op (and_of (expr_at c.args.depth)) c.args.self.now) (λ x. loose.or x.0 (loose.ands (map (λ y. y.1) x.1))) (chain_fails or_op (and_of (expr_at c.args.depth)) c.args.self.now c.in_err-first.field-0.0 c.in_err-first.ensures)))

pub or-returns-in_err-next : goal.or-returns-in_err-next
unfolding or_of
or-returns-in_err-next t c =
    let p = err_from_is_err_and c.from_residual-in_err-next.result c.from_residual-in_err-next.ensures.1 in
    rw (p.1, p.2) (mapped_fails c.in_err-next.field-0.0 (or_of (expr_at c.args.depth) c.args.self.now) loose.or_expr (chained_fail or_op (and_of (expr_at c.args.depth)) (λ x. loose.or x.0 (loose.ands (map (λ y. y.1) x.1))) c.args.self.now (shown_and c.in_ok-first.first.value) c.and.new.self c.in_ok-first.ensures (map (alone shown_and) c.links.extended.items) c.links.self c.links.invariant _ c.or_operator.new.self c.in-Some.ensures c.in_err-next.field-0.0 c.in_err-next.ensures))

pub or-links-preserved : goal.or-links-preserved
or-links-preserved t c = rw (c.in_ok-add_boxed.ensures, map_push) (links_more or_op (and_of (expr_at c.args.depth)) (map (alone shown_and) c.links.extended.items) c.links.self (links_of or_op (and_of (expr_at c.args.depth)) c.and.new.self) _ c.or_operator.new.self c.in-Some.ensures (shown_and c.in_ok-next.next.value) c.and-in-Some.new.self c.in_ok-next.ensures (and-leaves (expr_at c.args.depth) (expr_at-leaves c.args.depth)) c.links.invariant)

pub or-links-smaller : goal.or-links-smaller
or-links-smaller t c = links_fewer or_op (and_of (expr_at c.args.depth)) (map (alone shown_and) c.links.extended.items) c.links.self (links_of or_op (and_of (expr_at c.args.depth)) c.and.new.self) _ c.or_operator.new.self c.in-Some.ensures (shown_and c.in_ok-next.next.value) c.and-in-Some.new.self c.in_ok-next.ensures (and-leaves (expr_at c.args.depth) (expr_at-leaves c.args.depth))

pub or-returns : goal.or-returns
unfolding or_of
or-returns t c =
    let first = shown_and c.in_ok-first.first.value in
    let front = map (alone shown_and) c.links.extended.items in
    let chain = chained_done or_op (and_of (expr_at c.args.depth)) (λ x. loose.or x.0 (loose.ands (map (λ y. y.1) x.1))) c.args.self.now first c.and.new.self c.in_ok-first.ensures front c.links.self c.links.invariant c.or_operator.new.self c.in_default.ensures
    ∙ ap (λ xs. Ok (loose.or first (loose.ands xs), c.or_operator.new.self)) (map_alone shown_and c.links.extended.items) in
    ap (mapped loose.or_expr) chain ∙ ap (λ o. Ok (o, c.or_operator.new.self)) (sym c.in_ok-or_expr.ensures)

pub and-links-init : goal.and-links-init
and-links-init t c = rw c.new-extended.ensures.items (links_start and_op (relation_of (expr_at c.args.depth)) c.relation.new.self)

pub and-returns-in_err-first : goal.and-returns-in_err-first
unfolding and_of
and-returns-in_err-first t c =
    let p = err_from_is_err_and c.from_residual.result c.from_residual.ensures.1 in
    rw (p.1, p.2) (mapped_fails c.in_err-first.field-0.0 (chain_of and_op (relation_of (expr_at c.args.depth)) c.args.self.now) (λ x. loose.and x.0 (loose.relations (map (λ y. y.1) x.1))) (chain_fails and_op (relation_of (expr_at c.args.depth)) c.args.self.now c.in_err-first.field-0.0 c.in_err-first.ensures))

pub and-returns-in_err-next : goal.and-returns-in_err-next
unfolding and_of
and-returns-in_err-next t c =
    let p = err_from_is_err_and c.from_residual-in_err-next.result c.from_residual-in_err-next.ensures.1 in
    rw (p.1, p.2) (chained_fail and_op (relation_of (expr_at c.args.depth)) (λ x. loose.and x.0 (loose.relations (map (λ y. y.1) x.1))) c.args.self.now (shown_relation c.in_ok-first.first.value) c.relation.new.self c.in_ok-first.ensures (map (alone shown_relation) c.links.extended.items) c.links.self c.links.invariant _ c.and_operator.new.self c.in-Some.ensures c.in_err-next.field-0.0 c.in_err-next.ensures)

pub and-links-preserved : goal.and-links-preserved
and-links-preserved t c = rw (c.in_ok-add_boxed.ensures, map_push) (links_more and_op (relation_of (expr_at c.args.depth)) (map (alone shown_relation) c.links.extended.items) c.links.self (links_of and_op (relation_of (expr_at c.args.depth)) c.relation.new.self) _ c.and_operator.new.self c.in-Some.ensures (shown_relation c.in_ok-next.next.value) c.relation-in-Some.new.self c.in_ok-next.ensures (relation-leaves (expr_at c.args.depth) (expr_at-leaves c.args.depth)) c.links.invariant)

pub and-links-smaller : goal.and-links-smaller
and-links-smaller t c = links_fewer and_op (relation_of (expr_at c.args.depth)) (map (alone shown_relation) c.links.extended.items) c.links.self (links_of and_op (relation_of (expr_at c.args.depth)) c.relation.new.self) _ c.and_operator.new.self c.in-Some.ensures (shown_relation c.in_ok-next.next.value) c.relation-in-Some.new.self c.in_ok-next.ensures (relation-leaves (expr_at c.args.depth) (expr_at-leaves c.args.depth))

pub and-returns : goal.and-returns
unfolding and_of
and-returns t c = chained_done and_op (relation_of (expr_at c.args.depth)) (λ x. loose.and x.0 (loose.relations (map (λ y. y.1) x.1))) c.args.self.now (shown_relation c.in_ok-first.first.value) c.relation.new.self c.in_ok-first.ensures (map (alone shown_relation) c.links.extended.items) c.links.self c.links.invariant c.and_operator.new.self c.in_default.ensures
    ∙ ap (λ xs. Ok (loose.and (shown_relation c.in_ok-first.first.value) (loose.relations xs), c.and_operator.new.self)) (map_alone shown_relation c.links.extended.items)
    ∙ ap (λ o. Ok (o, c.and_operator.new.self)) (sym c.in_ok-and_node.ensures)

pub mult-links-init : goal.mult-links-init
mult-links-init t c = rw c.new-extended.ensures.items (links_start mult_op (unary_of (expr_at c.args.depth)) c.unary.new.self)

pub mult-returns-in_err-first : goal.mult-returns-in_err-first
unfolding mult_of
mult-returns-in_err-first t c =
    let p = err_from_is_err_and c.from_residual.result c.from_residual.ensures.1 in
    rw (p.1, p.2) (mapped_fails c.in_err-first.field-0.0 (chain_of mult_op (unary_of (expr_at c.args.depth)) c.args.self.now) (λ x. loose.mult x.0 (loose.unaries x.1)) (chain_fails mult_op (unary_of (expr_at c.args.depth)) c.args.self.now c.in_err-first.field-0.0 c.in_err-first.ensures))

pub mult-returns-in_err-next : goal.mult-returns-in_err-next
unfolding mult_of
mult-returns-in_err-next t c =
    let p = err_from_is_err_and c.from_residual-in_err-next.result c.from_residual-in_err-next.ensures.1 in
    rw (p.1, p.2) (chained_fail mult_op (unary_of (expr_at c.args.depth)) (λ x. loose.mult x.0 (loose.unaries x.1)) c.args.self.now (shown_unary c.in_ok-first.first.value) c.unary.new.self c.in_ok-first.ensures (map (linked_unary) c.links.extended.items) c.links.self c.links.invariant _ c.mult_operator.new.self c.in-Some.ensures c.in_err-next.field-0.0 c.in_err-next.ensures)

pub mult-links-preserved : goal.mult-links-preserved
mult-links-preserved t c = rw (c.in_ok-add_link.ensures, map_push) (links_more mult_op (unary_of (expr_at c.args.depth)) (map (linked_unary) c.links.extended.items) c.links.self (links_of mult_op (unary_of (expr_at c.args.depth)) c.unary.new.self) _ c.mult_operator.new.self c.in-Some.ensures (shown_unary c.in_ok-next.next.value) c.unary-in-Some.new.self c.in_ok-next.ensures (unary-leaves (expr_at c.args.depth) (expr_at-leaves c.args.depth)) c.links.invariant)

pub mult-links-smaller : goal.mult-links-smaller
mult-links-smaller t c = links_fewer mult_op (unary_of (expr_at c.args.depth)) (map (linked_unary) c.links.extended.items) c.links.self (links_of mult_op (unary_of (expr_at c.args.depth)) c.unary.new.self) _ c.mult_operator.new.self c.in-Some.ensures (shown_unary c.in_ok-next.next.value) c.unary-in-Some.new.self c.in_ok-next.ensures (unary-leaves (expr_at c.args.depth) (expr_at-leaves c.args.depth))

pub mult-returns : goal.mult-returns
unfolding mult_of
mult-returns t c = chained_done mult_op (unary_of (expr_at c.args.depth)) (λ x. loose.mult x.0 (loose.unaries x.1)) c.args.self.now (shown_unary c.in_ok-first.first.value) c.unary.new.self c.in_ok-first.ensures (map (linked_unary) c.links.extended.items) c.links.self c.links.invariant c.mult_operator.new.self c.in_default.ensures
    ∙ ap (λ o. Ok (o, c.mult_operator.new.self)) (sym c.in_ok-mult_node.ensures)

pub comparisons-links-init : goal.comparisons-links-init
comparisons-links-init t c = rw c.new-extended.ensures.items (links_start rel_op (add_of (expr_at c.args.depth)) c.args.self.now)

pub comparisons-returns-in_err-next : goal.comparisons-returns-in_err-next
comparisons-returns-in_err-next t c =
    let p = err_from_is_err_and c.from_residual.result c.from_residual.ensures.1 in
    rw (p.1, p.2) (mapped_fails c.in_err-next.field-0.0 (links_of rel_op (add_of (expr_at c.args.depth)) c.args.self.now) (λ bs. loose.common (shown_add c.args.target.value) (loose.adds bs)) (links_fail rel_op (add_of (expr_at c.args.depth)) (map linked_add c.links.extended.items) c.links.self (links_of rel_op (add_of (expr_at c.args.depth)) c.args.self.now) _ c.rel_operator.new.self c.in-Some.ensures c.in_err-next.field-0.0 c.links.invariant c.in_err-next.ensures))

pub comparisons-links-preserved : goal.comparisons-links-preserved
comparisons-links-preserved t c = rw (c.in_ok-add_link.ensures, map_push) (links_more rel_op (add_of (expr_at c.args.depth)) (map linked_add c.links.extended.items) c.links.self (links_of rel_op (add_of (expr_at c.args.depth)) c.args.self.now) _ c.rel_operator.new.self c.in-Some.ensures (shown_add c.in_ok-next.next.value) c.operand.new.self c.in_ok-next.ensures (add-leaves (expr_at c.args.depth) (expr_at-leaves c.args.depth)) c.links.invariant)

pub comparisons-links-smaller : goal.comparisons-links-smaller
comparisons-links-smaller t c = links_fewer rel_op (add_of (expr_at c.args.depth)) (map linked_add c.links.extended.items) c.links.self (links_of rel_op (add_of (expr_at c.args.depth)) c.args.self.now) _ c.rel_operator.new.self c.in-Some.ensures (shown_add c.in_ok-next.next.value) c.operand.new.self c.in_ok-next.ensures (add-leaves (expr_at c.args.depth) (expr_at-leaves c.args.depth))

pub comparisons-returns : goal.comparisons-returns
comparisons-returns t c = ap (λ r. mapped (λ bs. loose.common (shown_add c.args.target.value) (loose.adds bs)) r) (links_done rel_op (add_of (expr_at c.args.depth)) (map linked_add c.links.extended.items) c.links.self (links_of rel_op (add_of (expr_at c.args.depth)) c.args.self.now) c.links.invariant c.rel_operator.new.self c.in_default.ensures)
    ∙ ap (λ o. Ok (o, c.rel_operator.new.self)) (sym c.in_ok-common_relation.ensures)

pub exprs-items-init : goal.exprs-items-init
exprs-items-init t c = rw c.new-items.ensures.items (items_start (mark_view c.args.close) (expr_at c.args.depth) c.args.self.now)

pub exprs-returns-in_err-item : goal.exprs-returns-in_err-item
exprs-returns-in_err-item t c =
    let p = err_from_is_err_and c.from_residual.result c.from_residual.ensures.1 in
    rw (p.1, p.2) (items_fail (mark_view c.args.close) (expr_at c.args.depth) (map shown_expr c.items.items.items) c.items.self (items_of (mark_view c.args.close) (expr_at c.args.depth) c.args.self.now) c.eat.new.self c.items-test.ensures c.in_err-item.field-0.0 c.items.invariant c.in_err-item.ensures)

pub exprs-returns-then-eat : goal.exprs-returns-then-eat
exprs-returns-then-eat t c = rw (c.in_ok-add.ensures, map_push) (items_last (mark_view c.args.close) (expr_at c.args.depth) (map shown_expr c.items.items.items) c.items.self (items_of (mark_view c.args.close) (expr_at c.args.depth) c.args.self.now) c.eat.new.self c.items-test.ensures (shown_expr c.in_ok-item.item) c.expr.new.self c.in_ok-item.ensures c.items.invariant c.eat-in-items.new.self c.if-eat.ensures)

pub exprs-returns-in_err-expect : goal.exprs-returns-in_err-expect
exprs-returns-in_err-expect t c =
    let p = err_from_is_err_and c.from_residual-in_err-expect.result c.from_residual-in_err-expect.ensures.1 in
    rw (p.1, p.2) (items_comma_fails (mark_view c.args.close) (expr_at c.args.depth) (map shown_expr c.items.items.items) c.items.self (items_of (mark_view c.args.close) (expr_at c.args.depth) c.args.self.now) c.eat.new.self c.items-test.ensures (shown_expr c.in_ok-item.item) c.expr.new.self c.in_ok-item.ensures c.eat-in-items.new.self c.if-eat.ensures c.in_err-expect.field-0.0 c.items.invariant c.in_err-expect.ensures)

pub exprs-items-preserved : goal.exprs-items-preserved
exprs-items-preserved t c = rw (c.in_ok-add.ensures, map_push) (items_more (mark_view c.args.close) (expr_at c.args.depth) (map shown_expr c.items.items.items) c.items.self (items_of (mark_view c.args.close) (expr_at c.args.depth) c.args.self.now) c.eat.new.self c.items-test.ensures (shown_expr c.in_ok-item.item) c.expr.new.self c.in_ok-item.ensures c.eat-in-items.new.self c.if-eat.ensures c.expect.new.self c.in_ok-expect.ensures (expr_at-leaves c.args.depth) c.items.invariant)

pub exprs-items-smaller : goal.exprs-items-smaller
exprs-items-smaller t c = items_fewer (mark_view c.args.close) (expr_at c.args.depth) (map shown_expr c.items.items.items) c.items.self (items_of (mark_view c.args.close) (expr_at c.args.depth) c.args.self.now) c.eat.new.self c.items-test.ensures (shown_expr c.in_ok-item.item) c.expr.new.self c.in_ok-item.ensures c.eat-in-items.new.self c.if-eat.ensures c.expect.new.self c.in_ok-expect.ensures (expr_at-leaves c.args.depth)

pub exprs-returns : goal.exprs-returns
exprs-returns t c = items_closed (mark_view c.args.close) (expr_at c.args.depth) (map shown_expr c.items.items.items) c.items.self (items_of (mark_view c.args.close) (expr_at c.args.depth) c.args.self.now) c.items.invariant c.eat.new.self c.items-test.ensures

pub rec_inits-items-init : goal.rec_inits-items-init
rec_inits-items-init t c = rw c.new-items.ensures.items (items_start token.RightBrace (rec_init_of (expr_at c.args.depth)) c.args.self.now)

pub rec_inits-returns-in_err-item : goal.rec_inits-returns-in_err-item
rec_inits-returns-in_err-item t c =
    let p = err_from_is_err_and c.from_residual.result c.from_residual.ensures.1 in
    rw (p.1, p.2) (items_fail token.RightBrace (rec_init_of (expr_at c.args.depth)) (map shown_rec_init c.items.items.items) c.items.self (items_of token.RightBrace (rec_init_of (expr_at c.args.depth)) c.args.self.now) c.eat.new.self c.items-test.ensures c.in_err-item.field-0.0 c.items.invariant c.in_err-item.ensures)

pub rec_inits-returns-then-eat : goal.rec_inits-returns-then-eat
rec_inits-returns-then-eat t c = rw (c.in_ok-add_boxed.ensures, map_push) (items_last token.RightBrace (rec_init_of (expr_at c.args.depth)) (map shown_rec_init c.items.items.items) c.items.self (items_of token.RightBrace (rec_init_of (expr_at c.args.depth)) c.args.self.now) c.eat.new.self c.items-test.ensures (shown_rec_init c.in_ok-item.item.value) c.rec_init.new.self c.in_ok-item.ensures c.items.invariant c.eat-in-items.new.self c.if-eat.ensures)

pub rec_inits-returns-in_err-expect : goal.rec_inits-returns-in_err-expect
rec_inits-returns-in_err-expect t c =
    let p = err_from_is_err_and c.from_residual-in_err-expect.result c.from_residual-in_err-expect.ensures.1 in
    rw (p.1, p.2) (items_comma_fails token.RightBrace (rec_init_of (expr_at c.args.depth)) (map shown_rec_init c.items.items.items) c.items.self (items_of token.RightBrace (rec_init_of (expr_at c.args.depth)) c.args.self.now) c.eat.new.self c.items-test.ensures (shown_rec_init c.in_ok-item.item.value) c.rec_init.new.self c.in_ok-item.ensures c.eat-in-items.new.self c.if-eat.ensures c.in_err-expect.field-0.0 c.items.invariant c.in_err-expect.ensures)

pub rec_inits-items-preserved : goal.rec_inits-items-preserved
rec_inits-items-preserved t c = rw (c.in_ok-add_boxed.ensures, map_push) (items_more token.RightBrace (rec_init_of (expr_at c.args.depth)) (map shown_rec_init c.items.items.items) c.items.self (items_of token.RightBrace (rec_init_of (expr_at c.args.depth)) c.args.self.now) c.eat.new.self c.items-test.ensures (shown_rec_init c.in_ok-item.item.value) c.rec_init.new.self c.in_ok-item.ensures c.eat-in-items.new.self c.if-eat.ensures c.expect.new.self c.in_ok-expect.ensures (rec_init-leaves (expr_at c.args.depth) (expr_at-leaves c.args.depth)) c.items.invariant)

pub rec_inits-items-smaller : goal.rec_inits-items-smaller
rec_inits-items-smaller t c = items_fewer token.RightBrace (rec_init_of (expr_at c.args.depth)) (map shown_rec_init c.items.items.items) c.items.self (items_of token.RightBrace (rec_init_of (expr_at c.args.depth)) c.args.self.now) c.eat.new.self c.items-test.ensures (shown_rec_init c.in_ok-item.item.value) c.rec_init.new.self c.in_ok-item.ensures c.eat-in-items.new.self c.if-eat.ensures c.expect.new.self c.in_ok-expect.ensures (rec_init-leaves (expr_at c.args.depth) (expr_at-leaves c.args.depth))

pub rec_inits-returns : goal.rec_inits-returns
rec_inits-returns t c = items_closed token.RightBrace (rec_init_of (expr_at c.args.depth)) (map shown_rec_init c.items.items.items) c.items.self (items_of token.RightBrace (rec_init_of (expr_at c.args.depth)) c.args.self.now) c.items.invariant c.eat.new.self c.items-test.ensures

pub access-returns-in_err-arguments : goal.access-returns-in_err-arguments
access-returns-in_err-arguments t c =
    let p = err_from_is_err_and c.from_residual.result c.from_residual.ensures.1 in
    rw (p.1, p.2) (fails_as c.in_err-arguments.field-0.0 (access_of (expr_at c.args.depth) c.args.self.now) (mapped (λ es. loose.call (loose.exprs es)) (items_of token.RightParen (expr_at c.args.depth) c.eat-else-eat.new.self)) (access_by_call (expr_at c.args.depth) c.args.self.now c.eat.new.self c.if-eat.ensures c.eat-else-eat.new.self c.if-eat-2.ensures) (mapped_fails c.in_err-arguments.field-0.0 (items_of token.RightParen (expr_at c.args.depth) c.eat-else-eat.new.self) (λ es. loose.call (loose.exprs es)) c.in_err-arguments.ensures))

pub access-returns-in_ok-call_access : goal.access-returns-in_ok-call_access
access-returns-in_ok-call_access t c = made c.in_ok-call_access.ensures (access_by_call (expr_at c.args.depth) c.args.self.now c.eat.new.self c.if-eat.ensures c.eat-else-eat.new.self c.if-eat-2.ensures ∙ ap (mapped (λ es. loose.call (loose.exprs es))) c.in_ok-arguments.ensures)

pub access-returns-in_err-expect : goal.access-returns-in_err-expect
access-returns-in_err-expect t c =
    let p = err_from_is_err_and c.from_residual-in_err-expect.result c.from_residual-in_err-expect.ensures.1 in
    rw (p.1, p.2) (fails_as c.in_err-expect.field-0.0 (access_of (expr_at c.args.depth) c.args.self.now) ((needed (eat token.LeftBracket c.eat-else-eat.new.self)) >> index_of (expr_at c.args.depth)) (access_by_index (expr_at c.args.depth) c.args.self.now c.eat.new.self c.if-eat.ensures c.eat-else-eat.new.self c.if-eat-2.ensures) (first_fails c.in_err-expect.field-0.0 (needed (eat token.LeftBracket c.eat-else-eat.new.self)) (index_of (expr_at c.args.depth)) c.in_err-expect.ensures))

pub access-returns-in_err-index : goal.access-returns-in_err-index
access-returns-in_err-index t c =
    let p = err_from_is_err_and c.from_residual-in_err-index.result c.from_residual-in_err-index.ensures.1 in
    rw (p.1, p.2) (fails_as c.in_err-index.field-0.0 (access_of (expr_at c.args.depth) c.args.self.now) ((needed (eat token.LeftBracket c.eat-else-eat.new.self)) >> index_of (expr_at c.args.depth)) (access_by_index (expr_at c.args.depth) c.args.self.now c.eat.new.self c.if-eat.ensures c.eat-else-eat.new.self c.if-eat-2.ensures) (then_fails c.in_err-index.field-0.0 (needed (eat token.LeftBracket c.eat-else-eat.new.self)) (index_of (expr_at c.args.depth)) c.expect.new.self c.in_ok-expect.ensures (first_fails c.in_err-index.field-0.0 ((expr_at c.args.depth) c.expect.new.self) (λ x. needed (eat token.RightBracket x.1) >> λ vs. Ok (loose.index x.0, vs)) c.in_err-index.ensures)))

pub expr-returns-then-depth-eq0 : goal.expr-returns-then-depth-eq0
expr-returns-then-depth-eq0 t c = expr_at_none c.args.depth c.args.self.now c.if-depth-eq0.true

pub expr-returns-then-eat_if : goal.expr-returns-then-eat_if
expr-returns-then-eat_if t c = gives_as shown_expr c.choice.result c.choice.new.self (expr_at c.args.depth c.args.self.now) (choice_of (expr_at (c.args.depth - 1)) c.eat_if.new.self) (expr_at_if c.args.depth c.if-depth-eq0.false c.args.self.now c.eat_if.new.self c.if-eat_if.ensures) c.choice.ensures

pub member-returns-in_err-item : goal.member-returns-in_err-item
member-returns-in_err-item t c =
    let p = err_from_is_err_and c.from_residual.result c.from_residual.ensures.1 in
    rw (p.1, p.2) (member_first_fails (expr_at c.args.depth) c.args.self.now c.in_err-item.field-0.0 c.in_err-item.ensures)

pub relation-returns-in_err-target : goal.relation-returns-in_err-target
relation-returns-in_err-target t c =
    let p = err_from_is_err_and c.from_residual.result c.from_residual.ensures.1 in
    rw (p.1, p.2) (relation_first_fails (expr_at c.args.depth) c.args.self.now c.in_err-target.field-0.0 c.in_err-target.ensures)

pub relation-returns-in_err-field : goal.relation-returns-in_err-field
relation-returns-in_err-field t c =
    let p = err_from_is_err_and c.from_residual-in_err-field.result c.from_residual-in_err-field.ensures.1 in
    rw (p.1, p.2) (fails_as c.in_err-field.field-0.0 (relation_of (expr_at c.args.depth) c.args.self.now) (mapped (loose.has (shown_add c.in_ok-target.target.value)) (add_of (expr_at c.args.depth) c.eat_has.new.self)) (relation_by_has (expr_at c.args.depth) c.args.self.now (shown_add c.in_ok-target.target.value) c.operand.new.self c.in_ok-target.ensures c.eat_has.new.self c.if-eat_has.ensures) (mapped_fails c.in_err-field.field-0.0 (add_of (expr_at c.args.depth) c.eat_has.new.self) (loose.has (shown_add c.in_ok-target.target.value)) c.in_err-field.ensures))

pub relation-returns-in_ok-has_relation : goal.relation-returns-in_ok-has_relation
relation-returns-in_ok-has_relation t c = made c.in_ok-has_relation.ensures (relation_by_has (expr_at c.args.depth) c.args.self.now (shown_add c.in_ok-target.target.value) c.operand.new.self c.in_ok-target.ensures c.eat_has.new.self c.if-eat_has.ensures ∙ ap (mapped (loose.has (shown_add c.in_ok-target.target.value))) c.in_ok-field.ensures)

pub relation-returns-in_err-pattern : goal.relation-returns-in_err-pattern
relation-returns-in_err-pattern t c =
    let p = err_from_is_err_and c.from_residual-in_err-pattern.result c.from_residual-in_err-pattern.ensures.1 in
    rw (p.1, p.2) (fails_as c.in_err-pattern.field-0.0 (relation_of (expr_at c.args.depth) c.args.self.now) (mapped (loose.like (shown_add c.in_ok-target.target.value)) (add_of (expr_at c.args.depth) c.eat_like.new.self)) (relation_by_like (expr_at c.args.depth) c.args.self.now (shown_add c.in_ok-target.target.value) c.operand.new.self c.in_ok-target.ensures c.eat_has.new.self c.if-eat_has.ensures c.eat_like.new.self c.if-eat_like.ensures) (mapped_fails c.in_err-pattern.field-0.0 (add_of (expr_at c.args.depth) c.eat_like.new.self) (loose.like (shown_add c.in_ok-target.target.value)) c.in_err-pattern.ensures))

pub relation-returns-in_ok-like_relation : goal.relation-returns-in_ok-like_relation
relation-returns-in_ok-like_relation t c = made c.in_ok-like_relation.ensures (relation_by_like (expr_at c.args.depth) c.args.self.now (shown_add c.in_ok-target.target.value) c.operand.new.self c.in_ok-target.ensures c.eat_has.new.self c.if-eat_has.ensures c.eat_like.new.self c.if-eat_like.ensures ∙ ap (mapped (loose.like (shown_add c.in_ok-target.target.value))) c.in_ok-pattern.ensures)

pub relation-returns-then-eat_is : goal.relation-returns-then-eat_is
relation-returns-then-eat_is t c = gives_as (λ b. shown_relation b.value) c.is.result c.is.new.self (relation_of (expr_at c.args.depth) c.args.self.now) (is_of (expr_at c.args.depth) (shown_add c.in_ok-target.target.value) c.eat_is.new.self) (relation_by_is (expr_at c.args.depth) c.args.self.now (shown_add c.in_ok-target.target.value) c.operand.new.self c.in_ok-target.ensures c.eat_has.new.self c.if-eat_has.ensures c.eat_like.new.self c.if-eat_like.ensures c.eat_is.new.self c.if-eat_is.ensures) c.is.ensures

pub relation-returns-else-eat_is : goal.relation-returns-else-eat_is
relation-returns-else-eat_is t c = gives_as (λ b. shown_relation b.value) c.comparisons.result c.comparisons.new.self (relation_of (expr_at c.args.depth) c.args.self.now) (comparisons_of (expr_at c.args.depth) (shown_add c.in_ok-target.target.value) c.eat_is.new.self) (relation_by_common (expr_at c.args.depth) c.args.self.now (shown_add c.in_ok-target.target.value) c.operand.new.self c.in_ok-target.ensures c.eat_has.new.self c.if-eat_has.ensures c.eat_like.new.self c.if-eat_like.ensures c.eat_is.new.self c.if-eat_is.ensures) c.comparisons.ensures

pub operand-links-init : goal.operand-links-init
operand-links-init t c = rw c.new-extended.ensures.items (links_start add_op (mult_of (expr_at c.args.depth)) c.mult.new.self)

pub operand-returns-in_err-first : goal.operand-returns-in_err-first
unfolding add_of
operand-returns-in_err-first t c =
    let p = err_from_is_err_and c.from_residual.result c.from_residual.ensures.1 in
    rw (p.1, p.2) (mapped_fails c.in_err-first.field-0.0 (chain_of add_op (mult_of (expr_at c.args.depth)) c.args.self.now) (λ x. loose.add x.0 (loose.mults x.1)) (chain_fails add_op (mult_of (expr_at c.args.depth)) c.args.self.now c.in_err-first.field-0.0 c.in_err-first.ensures))

pub operand-returns-in_err-next : goal.operand-returns-in_err-next
unfolding add_of
operand-returns-in_err-next t c =
    let p = err_from_is_err_and c.from_residual-in_err-next.result c.from_residual-in_err-next.ensures.1 in
    rw (p.1, p.2) (chained_fail add_op (mult_of (expr_at c.args.depth)) (λ x. loose.add x.0 (loose.mults x.1)) c.args.self.now (shown_mult c.in_ok-first.first.value) c.mult.new.self c.in_ok-first.ensures (map (linked_mult) c.links.extended.items) c.links.self c.links.invariant _ c.add_operator.new.self c.in-Some.ensures c.in_err-next.field-0.0 c.in_err-next.ensures)

pub operand-links-preserved : goal.operand-links-preserved
operand-links-preserved t c = rw (c.in_ok-add_link.ensures, map_push) (links_more add_op (mult_of (expr_at c.args.depth)) (map (linked_mult) c.links.extended.items) c.links.self (links_of add_op (mult_of (expr_at c.args.depth)) c.mult.new.self) _ c.add_operator.new.self c.in-Some.ensures (shown_mult c.in_ok-next.next.value) c.mult-in-Some.new.self c.in_ok-next.ensures (mult-leaves (expr_at c.args.depth) (expr_at-leaves c.args.depth)) c.links.invariant)

pub operand-links-smaller : goal.operand-links-smaller
operand-links-smaller t c = links_fewer add_op (mult_of (expr_at c.args.depth)) (map (linked_mult) c.links.extended.items) c.links.self (links_of add_op (mult_of (expr_at c.args.depth)) c.mult.new.self) _ c.add_operator.new.self c.in-Some.ensures (shown_mult c.in_ok-next.next.value) c.mult-in-Some.new.self c.in_ok-next.ensures (mult-leaves (expr_at c.args.depth) (expr_at-leaves c.args.depth))

pub operand-returns : goal.operand-returns
unfolding add_of
operand-returns t c = chained_done add_op (mult_of (expr_at c.args.depth)) (λ x. loose.add x.0 (loose.mults x.1)) c.args.self.now (shown_mult c.in_ok-first.first.value) c.mult.new.self c.in_ok-first.ensures (map (linked_mult) c.links.extended.items) c.links.self c.links.invariant c.add_operator.new.self c.in_default.ensures
    ∙ ap (λ o. Ok (o, c.add_operator.new.self)) (sym c.in_ok-add_node.ensures)

pub expr-returns-else-eat_if : goal.expr-returns-else-eat_if
expr-returns-else-eat_if t c = gives_as shown_expr c.or.result c.or.new.self (expr_at c.args.depth c.args.self.now) (mapped loose.or_expr (or_of (expr_at (c.args.depth - 1)) c.eat_if.new.self)) (expr_at_or c.args.depth c.if-depth-eq0.false c.args.self.now c.eat_if.new.self c.if-eat_if.ensures) c.or.ensures

pub accesses-links-init : goal.accesses-links-init
accesses-links-init t c = rw c.new-access.ensures.items (each_start begins_access (access_of (expr_at c.args.depth)) c.args.self.now)

pub accesses-returns-in_err-next : goal.accesses-returns-in_err-next
accesses-returns-in_err-next t c =
    let p = err_from_is_err_and c.from_residual.result c.from_residual.ensures.1 in
    rw (p.1, p.2) (each_fail begins_access (access_of (expr_at c.args.depth)) (map shown_mem_access c.links.access.items) c.links.self (each_of begins_access (access_of (expr_at c.args.depth)) c.args.self.now) c.links-test.ensures c.in_err-next.field-0.0 c.links.invariant c.in_err-next.ensures)

pub accesses-links-preserved : goal.accesses-links-preserved
accesses-links-preserved t c = rw (c.in_ok-add_boxed.ensures, map_push) (each_more begins_access (access_of (expr_at c.args.depth)) (map shown_mem_access c.links.access.items) c.links.self (each_of begins_access (access_of (expr_at c.args.depth)) c.args.self.now) c.links-test.ensures (shown_mem_access c.in_ok-next.next.value) c.access.new.self c.in_ok-next.ensures (access_fewer (expr_at c.args.depth) (expr_at-leaves c.args.depth) c.links.self (shown_mem_access c.in_ok-next.next.value) c.access.new.self c.in_ok-next.ensures) c.links.invariant)

pub accesses-links-smaller : goal.accesses-links-smaller
accesses-links-smaller t c = access_fewer (expr_at c.args.depth) (expr_at-leaves c.args.depth) c.links.self (shown_mem_access c.in_ok-next.next.value) c.access.new.self c.in_ok-next.ensures

pub accesses-returns : goal.accesses-returns
accesses-returns t c = each_done begins_access (access_of (expr_at c.args.depth)) (map shown_mem_access c.links.access.items) c.links.self (each_of begins_access (access_of (expr_at c.args.depth)) c.args.self.now) c.links.invariant c.links-test.ensures

pub member-returns-in_err-access : goal.member-returns-in_err-access
member-returns-in_err-access t c =
    let p = err_from_is_err_and c.from_residual-in_err-access.result c.from_residual-in_err-access.ensures.1 in
    rw (p.1, p.2) (member_then_fails (expr_at c.args.depth) c.args.self.now (shown_primary c.in_ok-item.item.value) c.item.new.self c.in_ok-item.ensures c.in_err-access.field-0.0 c.in_err-access.ensures)

pub member-returns : goal.member-returns
member-returns t c = member_done (expr_at c.args.depth) c.args.self.now (shown_primary c.in_ok-item.item.value) c.item.new.self c.in_ok-item.ensures (map shown_mem_access c.in_ok-access.access.items) c.accesses.new.self c.in_ok-access.ensures
    ∙ ap (λ o. Ok (o, c.accesses.new.self)) (sym c.in_ok-member_node.ensures)

pub access-returns-then-eat : goal.access-returns-then-eat
access-returns-then-eat t c = gives_as (λ b. shown_mem_access b.value) c.field.result c.field.new.self (access_of (expr_at c.args.depth) c.args.self.now) (mapped loose.field (mapped loose.ident (needed (word_read c.eat.new.self)))) (access_field (expr_at c.args.depth) c.args.self.now c.eat.new.self c.if-eat.ensures) c.field.ensures

pub access-returns-in_ok-index : goal.access-returns-in_ok-index
access-returns-in_ok-index t c = gives_as (λ b. shown_mem_access b.value) c.close_index.result c.close_index.new.self (access_of (expr_at c.args.depth) c.args.self.now) (closed_by token.RightBracket (loose.index (shown_expr c.in_ok-index.index)) c.expr.new.self)
    (access_by_index (expr_at c.args.depth) c.args.self.now c.eat.new.self c.if-eat.ensures c.eat-else-eat.new.self c.if-eat-2.ensures ∙ (then_ok (needed (eat token.LeftBracket c.eat-else-eat.new.self)) (index_of (expr_at c.args.depth)) c.expect.new.self c.in_ok-expect.ensures ∙ then_ok ((expr_at c.args.depth) c.expect.new.self) (λ x. needed (eat token.RightBracket x.1) >> λ vs. Ok (loose.index x.0, vs)) (shown_expr c.in_ok-index.index, c.expr.new.self) c.in_ok-index.ensures))
    c.close_index.ensures

pub item-returns-in_err-expr : goal.item-returns-in_err-expr
item-returns-in_err-expr t c =
    let p = err_from_is_err_and c.from_residual.result c.from_residual.ensures.1 in
    rw (p.1, p.2) (fails_as c.in_err-expr.field-0.0 (primary_of (expr_at c.args.depth) c.args.self.now) (((expr_at c.args.depth) c.eat.new.self) >> (λ x. needed (eat token.RightParen x.1) >> λ vs. Ok (loose.expr x.0, vs))) (primary_paren (expr_at c.args.depth) c.args.self.now c.eat.new.self c.if-eat.ensures) (first_fails c.in_err-expr.field-0.0 ((expr_at c.args.depth) c.eat.new.self) (λ x. needed (eat token.RightParen x.1) >> λ vs. Ok (loose.expr x.0, vs)) c.in_err-expr.ensures))

pub item-returns-in_err-items : goal.item-returns-in_err-items
item-returns-in_err-items t c =
    let p = err_from_is_err_and c.from_residual-in_err-items.result c.from_residual-in_err-items.ensures.1 in
    rw (p.1, p.2) (fails_as c.in_err-items.field-0.0 (primary_of (expr_at c.args.depth) c.args.self.now) (mapped (λ es. loose.e_list (loose.exprs es)) (items_of token.RightBracket (expr_at c.args.depth) c.eat-else-eat.new.self)) (primary_by_list (expr_at c.args.depth) c.args.self.now c.eat.new.self c.if-eat.ensures c.eat-else-eat.new.self c.if-eat-2.ensures) (mapped_fails c.in_err-items.field-0.0 (items_of token.RightBracket (expr_at c.args.depth) c.eat-else-eat.new.self) (λ es. loose.e_list (loose.exprs es)) c.in_err-items.ensures))

pub item-returns-in_ok-list_primary : goal.item-returns-in_ok-list_primary
item-returns-in_ok-list_primary t c = made c.in_ok-list_primary.ensures (primary_by_list (expr_at c.args.depth) c.args.self.now c.eat.new.self c.if-eat.ensures c.eat-else-eat.new.self c.if-eat-2.ensures ∙ ap (mapped (λ es. loose.e_list (loose.exprs es))) c.in_ok-items.ensures)

pub item-returns-in_err-entries : goal.item-returns-in_err-entries
item-returns-in_err-entries t c =
    let p = err_from_is_err_and c.from_residual-in_err-entries.result c.from_residual-in_err-entries.ensures.1 in
    rw (p.1, p.2) (fails_as c.in_err-entries.field-0.0 (primary_of (expr_at c.args.depth) c.args.self.now) (mapped (λ es. loose.r_inits (loose.rec_inits es)) (items_of token.RightBrace (rec_init_of (expr_at c.args.depth)) c.eat-else-eat-2.new.self)) (primary_by_record (expr_at c.args.depth) c.args.self.now c.eat.new.self c.if-eat.ensures c.eat-else-eat.new.self c.if-eat-2.ensures c.eat-else-eat-2.new.self c.if-eat-3.ensures) (mapped_fails c.in_err-entries.field-0.0 (items_of token.RightBrace (rec_init_of (expr_at c.args.depth)) c.eat-else-eat-2.new.self) (λ es. loose.r_inits (loose.rec_inits es)) c.in_err-entries.ensures))

pub item-returns-in_ok-record_primary : goal.item-returns-in_ok-record_primary
item-returns-in_ok-record_primary t c = made c.in_ok-record_primary.ensures (primary_by_record (expr_at c.args.depth) c.args.self.now c.eat.new.self c.if-eat.ensures c.eat-else-eat.new.self c.if-eat-2.ensures c.eat-else-eat-2.new.self c.if-eat-3.ensures ∙ ap (mapped (λ es. loose.r_inits (loose.rec_inits es))) c.in_ok-entries.ensures)

pub item-returns-in_ok-expr : goal.item-returns-in_ok-expr
item-returns-in_ok-expr t c = gives_as (λ b. shown_primary b.value) c.close_group.result c.close_group.new.self (primary_of (expr_at c.args.depth) c.args.self.now) (closed_by token.RightParen (loose.expr (shown_expr c.in_ok-expr.expr)) c.expr.new.self)
    (primary_paren (expr_at c.args.depth) c.args.self.now c.eat.new.self c.if-eat.ensures ∙ then_ok ((expr_at c.args.depth) c.eat.new.self) (λ x. needed (eat token.RightParen x.1) >> λ vs. Ok (loose.expr x.0, vs)) (shown_expr c.in_ok-expr.expr, c.expr.new.self) c.in_ok-expr.ensures)
    c.close_group.ensures
