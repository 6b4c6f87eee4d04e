-- Arguments are written one by one, each less deep than what holds it; of ground parts the whole is ground.
use Rattle.std.proofs.Common.{◌≡◌, ◌≤◌, ◌+◌, ◌∙◌, ap, ◌∷◌, [], ◌++◌, map, drop, arith, rules}
use Rattle.std.proofs.lemmas.List.{map-append}
use Rattle.cedar_trees.specs.Bare.{bare, bare_entries}
use Rattle.cedar_values.specs.Representations.{written, written_all}
use Rattle.cedar_restricted.proofs.Rising.{keys_are, texts_end, put_next, texts_next, trees_next}
use Rattle.cedar_restricted.proofs.Writing.{depth, depths, cut_items, ground_more, part_is_deep, write_next, write_end, record_is_deep, record_is_written}
use Rattle.cedar_restricted.proofs.representations.+call_expr.Goals as goal

pub argument_expr-field_exprs-requires : goal.argument_expr-field_exprs-requires
argument_expr-field_exprs-requires t c =
    let deep = record_is_deep c.args.argument.now c.in-Record.fields c.deref-in-Record.result.now c.in-Record.is c.deref-in-Record.ensures in
    (omega (arith, deep, c.decreases), tt)

pub argument_expr-returns-in_ok-new-in-Record : goal.argument_expr-returns-in_ok-new-in-Record
argument_expr-returns-in_ok-new-in-Record t c =
    record_is_written c.args.argument.now c.in-Record.fields c.deref-in-Record.result.now c.in_ok-entries-in-Record.entries c.in_ok-new-in-Record.field-0 (bare c.record_arc.result) c.in-Record.is c.deref-in-Record.ensures c.in_ok-entries-in-Record.ensures.keys c.in_ok-entries-in-Record.ensures.written c.in_ok-entries-in-Record.ensures.ground c.record_arc.ensures c.in_ok-new-in-Record.ensures.ok

pub argument_exprs-argument_expr-requires : goal.argument_exprs-argument_expr-requires
argument_exprs-argument_expr-requires t c =
    let deep : depth (written c.argument-item.result) ≤ depths (written_all c.args.arguments.now) = part_is_deep (map bare c.loop-argument.exprs.items) (map written (drop c.loop-argument.argument-index c.args.arguments.now)) (map written (drop (c.loop-argument.argument-index + 1) c.args.arguments.now)) (map written c.args.arguments.now) (written c.argument-item.result) c.loop-argument.invariant.written (cut_items written c.args.arguments.now c.loop-argument.argument-index c.argument-item.result c.loop-argument-test.true c.argument-item.is) in
    (omega (arith, deep, c.decreases), tt)

pub argument_exprs-loop-argument-preserved : goal.argument_exprs-loop-argument-preserved
argument_exprs-loop-argument-preserved t c =
    let pushed : c.push.new.self.items ≡ c.loop-argument.exprs.items ++ c.in_ok-argument_expr.field-0 ∷ [] = search rules in
    let more : map bare c.push.new.self.items ≡ map bare c.loop-argument.exprs.items ++ bare c.in_ok-argument_expr.field-0 ∷ [] = ap (map bare) pushed ∙ map-append bare _ _ in
    record {
      written = write_next _ _ _ _ _ _ _ c.loop-argument.invariant.written (cut_items written c.args.arguments.now c.loop-argument.argument-index c.argument-item.result c.loop-argument-test.true c.argument-item.is) c.in_ok-argument_expr.ensures.0 more;
      ground = ground_more _ _ _ c.loop-argument.invariant.ground c.in_ok-argument_expr.ensures.1 more;
    }

pub field_exprs-argument_expr-requires : goal.field_exprs-argument_expr-requires
field_exprs-argument_expr-requires t c =
    let deep : depth (written c.in-Some.argument.now) ≤ depths (written_all (map (λ e. e.1) c.args.fields.now.entries)) = part_is_deep (map (λ e. e.1) (bare_entries c.loop-key.exprs.entries)) (map written (map (λ e. e.1) c.loop-key.key-iterator)) (map written (map (λ e. e.1) c.next.new.self)) (map written (map (λ e. e.1) c.args.fields.now.entries)) (written c.in-Some.argument.now) c.loop-key.invariant.3 (ap (λ es. map written (map (λ e. e.1) es)) c.in-Some.ensures.steps) in
    (omega (arith, deep, c.decreases), tt)

pub field_exprs-loop-key-preserved-in_ok-insert : goal.field_exprs-loop-key-preserved-in_ok-insert
field_exprs-loop-key-preserved-in_ok-insert t c =
    let put = put_next c.loop-key.exprs.entries c.insert.new.self.entries c.loop-key.key-iterator c.next.new.self c.args.fields.now.entries c.in_ok-clone.field-0 c.in-Some.key.now c.in_ok-expr.expr c.in-Some.argument.now c.in_ok-insert.ensures.entries c.in_ok-clone.ensures.cases c.loop-key.invariant.2 c.in-Some.ensures.steps c.into_iter-key-iterator.ensures.into_iter_gives.5 in
    let more = trees_next c.loop-key.exprs.entries c.insert.new.self.entries c.in_ok-clone.field-0 c.in_ok-expr.expr put in (
      tt,
      tt,
      texts_next c.loop-key.exprs.entries c.insert.new.self.entries c.loop-key.key-iterator c.next.new.self c.args.fields.now.entries c.in_ok-clone.field-0 c.in-Some.key.now c.in_ok-expr.expr c.in-Some.argument.now put c.in_ok-clone.ensures.cases c.loop-key.invariant.2 c.in-Some.ensures.steps,
      write_next _ _ _ _ _ _ _ c.loop-key.invariant.3 (ap (λ es. map written (map (λ e. e.1) es)) c.in-Some.ensures.steps) c.in_ok-expr.ensures.0 more,
      ground_more _ _ _ c.loop-key.invariant.4 c.in_ok-expr.ensures.1 more,
    )

pub field_exprs-loop-key-preserved : goal.field_exprs-loop-key-preserved
field_exprs-loop-key-preserved t c =
    let put = put_next c.loop-key.exprs.entries c.insert.new.self.entries c.loop-key.key-iterator c.next.new.self c.args.fields.now.entries c.in_ok-clone.field-0 c.in-Some.key.now c.in_ok-expr.expr c.in-Some.argument.now c.in_ok-insert.ensures.entries c.in_ok-clone.ensures.cases c.loop-key.invariant.2 c.in-Some.ensures.steps c.into_iter-key-iterator.ensures.into_iter_gives.5 in
    let more = trees_next c.loop-key.exprs.entries c.insert.new.self.entries c.in_ok-clone.field-0 c.in_ok-expr.expr put in (
      tt,
      tt,
      texts_next c.loop-key.exprs.entries c.insert.new.self.entries c.loop-key.key-iterator c.next.new.self c.args.fields.now.entries c.in_ok-clone.field-0 c.in-Some.key.now c.in_ok-expr.expr c.in-Some.argument.now put c.in_ok-clone.ensures.cases c.loop-key.invariant.2 c.in-Some.ensures.steps,
      write_next _ _ _ _ _ _ _ c.loop-key.invariant.3 (ap (λ es. map written (map (λ e. e.1) es)) c.in-Some.ensures.steps) c.in_ok-expr.ensures.0 more,
      ground_more _ _ _ c.loop-key.invariant.4 c.in_ok-expr.ensures.1 more,
    )

pub field_exprs-returns-clause-keys : goal.field_exprs-returns-clause-keys
field_exprs-returns-clause-keys t c = keys_are c.loop-key.exprs.entries ∙ texts_end c.loop-key.exprs.entries c.loop-key.key-iterator c.args.fields.now.entries c.loop-key.invariant.2 c.in-None.ensures.steps.0

pub field_exprs-returns-clause-written : goal.field_exprs-returns-clause-written
field_exprs-returns-clause-written t c = write_end _ _ _ c.loop-key.invariant.3 (ap (λ es. map written (map (λ e. e.1) es)) c.in-None.ensures.steps.0)
