use Rattle.std.proofs.Common.{◌≡◌, ◌+◌, [], ◌∷◌, ◌++◌, drop, ap, sym, ◌∙◌, arith}
use Rattle.std.specs.Prelude.{string_bytes, encode_utf8_all}
use Rattle.std.proofs.lemmas.List.{drop_more}
use Rattle.json.specs.Value.{value_view, items_view}
use Rattle.cedar_json.specs.EntitiesWritten.{each_written, entity_written}
use Rattle.cedar_json.proofs.Appending.{on_closed, item_step, none_left}
use Rattle.cedar_json.proofs.entities_written.write_entities_of.Goals as goal

pub returns : goal.returns
returns c =
    let xs = c.deref-item-items.result.now in
    let i = c.loop-item.item-index in
    let a = string_bytes c.args.out.now in
    let none : drop i xs ≡ [] = none_left xs i (omega arith) in
    let whole = a ++ encode_utf8_all (each_written (items_view c.args.items.now.items)) in
    on_closed c.push-2.result (string_bytes c.loop-item.out) (string_bytes c.push-2.new.self) whole 93 (each_written (items_view (drop i xs)))
    (ap (λ ys. each_written (items_view ys)) none)
    (c.loop-item.invariant ∙ ap (λ ys. a ++ encode_utf8_all (each_written (items_view ys))) c.deref-item-items.ensures.value)
    c.push-2.ensures.bytes

pub loop-item-preserved : goal.loop-item-preserved
loop-item-preserved c =
    let l = c.loop-item in
    let xs = c.deref-item-items.result.now in
    let x = c.item-item.result in
    let here : drop l.item-index xs ≡ x ∷ drop (l.item-index + 1) xs = drop_more xs l.item-index x (omega arith)
    ∙ ap (λ y. y ∷ drop (l.item-index + 1) xs) (sym c.item-item.is) in
    item_step (string_bytes l.out) (string_bytes c.write_entity.new.out) (string_bytes c.push.new.self) (entity_written (value_view x))
    (each_written (items_view (drop (l.item-index + 1) xs))) _ 44
    c.in_ok-write_entity.ensures c.in_ok-push.ensures.bytes
    (ap (λ ys. string_bytes l.out ++ encode_utf8_all (each_written (items_view ys))) (sym here) ∙ l.invariant)
