-- What is read is what the values so far and the reading of the rest give together; the first refusal refuses all.
use Rattle.std.proofs.Common.{◌≡◌, ◌∙◌, ap, sym, ◌∷◌, [], ◌++◌, map, drop, arith, rules, Vec, BTreeMap, Global}
use Rattle.std.specs.Prelude.{Some, option_map}
use Rattle.std.specs.declared.rc.RcStr.{RcStr}
use Rattle.std.proofs.lemmas.List.{map-append}
use Rattle.std.proofs.lemmas.Grind.{common_steps}
use Rattle.cedar_language.specs.Value.{Value, RecordOf}
use Rattle.cedar_language.specs.Order.{all_of}
use Rattle.cedar_grammar.specs.Build.{keys}
use Rattle.cedar_trees.specs.Bare.{bare, bare_entries}
use Rattle.cedar_trees.specs.declared.expr.Expr.{Expr}
use Rattle.cedar_values.specs.Kinds.{value_of, keys_of, values_of}
use Rattle.cedar_restricted.proofs.Rising.{keys_are, texts_end, put_next, texts_next}
use Rattle.cedar_restricted.proofs.Writing.{cut_items}
use Rattle.cedar_restricted.proofs.Gathering.{read_next, read_end, read_refused, passed, read-Record}
use Rattle.cedar_restricted.proofs.from_expr.+read_value.Goals as goal

pub read_items-loop-item-preserved : goal.read_items-loop-item-preserved
read_items-loop-item-preserved t c =
    let pushed : c.push.new.self.items ≡ c.loop-item.values.items ++ c.in_ok-read_value.field-0 ∷ [] = search rules in
    read_next _ _ _ _ _ _ _ c.loop-item.invariant (cut_items bare c.args.items.now c.loop-item.item-index c.item-item.result c.loop-item-test.true c.item-item.is) c.in_ok-read_value.ensures pushed

pub read_items-returns : goal.read_items-returns
read_items-returns t c =
    let none : drop c.loop-item.item-index c.args.items.now ≡ [] = grind (arith, common_steps) in
    read_end _ _ _ c.loop-item.invariant (ap (map bare) none)

pub read_items-returns-in_err-read_value : goal.read_items-returns-in_err-read_value
read_items-returns-in_err-read_value t c =
    passed (λ (v : Vec Value Global). all_of v.items) (λ (v : Value). v) c.in_err-read_value.field-0.0 c.from_residual.result _ _
    (λ n. read_refused _ c.loop-item.values.items _ _ _ c.loop-item.invariant (cut_items bare c.args.items.now c.loop-item.item-index c.item-item.result c.loop-item-test.true c.item-item.is) n)
    c.from_residual.ensures c.in_err-read_value.ensures

pub read_entries-loop-key-preserved-in_ok-insert : goal.read_entries-loop-key-preserved-in_ok-insert
read_entries-loop-key-preserved-in_ok-insert t c =
    let put = put_next c.loop-key.fields.entries c.insert.new.self.entries c.loop-key.key-iterator c.next.new.self c.args.entries.now.entries c.in_ok-clone.field-0 c.in-Some.key.now c.in_ok-value.value c.in-Some.expr.now c.in_ok-insert.ensures.entries c.in_ok-clone.ensures.cases c.loop-key.invariant.2 c.in-Some.ensures.steps c.into_iter-key-iterator.ensures.into_iter_gives.5 in (
      tt,
      tt,
      texts_next c.loop-key.fields.entries c.insert.new.self.entries c.loop-key.key-iterator c.next.new.self c.args.entries.now.entries c.in_ok-clone.field-0 c.in-Some.key.now c.in_ok-value.value c.in-Some.expr.now put c.in_ok-clone.ensures.cases c.loop-key.invariant.2 c.in-Some.ensures.steps,
      read_next _ _ _ _ _ _ _ c.loop-key.invariant.3 (ap (λ es. map (λ e. e.1) (bare_entries es)) c.in-Some.ensures.steps) c.in_ok-value.ensures (ap (map (λ e. e.1)) put ∙ map-append (λ e. e.1) c.loop-key.fields.entries ((c.in_ok-clone.field-0, c.in_ok-value.value) ∷ [])),
    )

pub read_entries-loop-key-preserved : goal.read_entries-loop-key-preserved
read_entries-loop-key-preserved t c =
    let put = put_next c.loop-key.fields.entries c.insert.new.self.entries c.loop-key.key-iterator c.next.new.self c.args.entries.now.entries c.in_ok-clone.field-0 c.in-Some.key.now c.in_ok-value.value c.in-Some.expr.now c.in_ok-insert.ensures.entries c.in_ok-clone.ensures.cases c.loop-key.invariant.2 c.in-Some.ensures.steps c.into_iter-key-iterator.ensures.into_iter_gives.5 in (
      tt,
      tt,
      texts_next c.loop-key.fields.entries c.insert.new.self.entries c.loop-key.key-iterator c.next.new.self c.args.entries.now.entries c.in_ok-clone.field-0 c.in-Some.key.now c.in_ok-value.value c.in-Some.expr.now put c.in_ok-clone.ensures.cases c.loop-key.invariant.2 c.in-Some.ensures.steps,
      read_next _ _ _ _ _ _ _ c.loop-key.invariant.3 (ap (λ es. map (λ e. e.1) (bare_entries es)) c.in-Some.ensures.steps) c.in_ok-value.ensures (ap (map (λ e. e.1)) put ∙ map-append (λ e. e.1) c.loop-key.fields.entries ((c.in_ok-clone.field-0, c.in_ok-value.value) ∷ [])),
    )

pub read_entries-returns-clause-values : goal.read_entries-returns-clause-values
read_entries-returns-clause-values t c = read_end _ _ _ c.loop-key.invariant.3 (ap (λ es. map (λ e. e.1) (bare_entries es)) c.in-None.ensures.steps.0)

pub read_entries-returns-clause-keys : goal.read_entries-returns-clause-keys
read_entries-returns-clause-keys t c = texts_end c.loop-key.fields.entries c.loop-key.key-iterator c.args.entries.now.entries c.loop-key.invariant.2 c.in-None.ensures.steps.0 ∙ sym (keys_are c.args.entries.now.entries)

pub read_entries-returns-in_err-value-clause-values : goal.read_entries-returns-in_err-value-clause-values
read_entries-returns-in_err-value-clause-values t c =
    passed (λ (m : BTreeMap (RcStr Global) Value). values_of m.entries) (λ (v : Value). v) c.in_err-value.field-0.0 c.from_residual.result _ _
    (λ n. read_refused _ (map (λ e. e.1) c.loop-key.fields.entries) _ _ _ c.loop-key.invariant.3 (ap (λ es. map (λ e. e.1) (bare_entries es)) c.in-Some.ensures.steps) n)
    c.from_residual.ensures c.in_err-value.ensures

pub read_kind-returns-in_err-fields-in-Record : goal.read_kind-returns-in_err-fields-in-Record
read_kind-returns-in_err-fields-in-Record t c =
    passed value_of (λ (m : BTreeMap (RcStr Global) Value). values_of m.entries) c.in_err-fields-in-Record.field-0.0 c.from_residual-in_err-fields-in-Record.result _ _
    (λ n. read-Record c.args.expr.now c.in-Record.entries c.deref-in-Record.result.now.entries c.in-Record.is (ap (λ (m : BTreeMap (RcStr Global) (Expr (Unit {0}))). m.entries) c.deref-in-Record.ensures) ∙ ap (option_map (RecordOf (keys (bare_entries c.deref-in-Record.result.now.entries)))) n)
    c.from_residual-in_err-fields-in-Record.ensures c.in_err-fields-in-Record.ensures.values

pub read_kind-returns-in_ok-new-in-Record : goal.read_kind-returns-in_ok-new-in-Record
read_kind-returns-in_ok-new-in-Record t c =
    read-Record c.args.expr.now c.in-Record.entries c.deref-in-Record.result.now.entries c.in-Record.is (ap (λ (m : BTreeMap (RcStr Global) (Expr (Unit {0}))). m.entries) c.deref-in-Record.ensures)
    ∙ ap (option_map (RecordOf (keys (bare_entries c.deref-in-Record.result.now.entries)))) c.in_ok-fields-in-Record.ensures.values
    ∙ ap (λ ks. Some (RecordOf ks (values_of c.in_ok-fields-in-Record.fields.entries))) (sym c.in_ok-fields-in-Record.ensures.keys)
    ∙ ap (λ (m : BTreeMap (RcStr Global) Value). Some (RecordOf (keys_of m.entries) (values_of m.entries))) (sym c.in_ok-new-in-Record.ensures.ok)
    ∙ ap Some (sym c.record_arc.ensures)
