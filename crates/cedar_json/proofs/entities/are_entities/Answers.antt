use Rattle.std.proofs.Common.{◌≡◌, ◌+◌, true, false, ◌&&◌, is_some, [], ◌∷◌, drop, ap, sym, ◌∙◌, arith}
use Rattle.std.proofs.lemmas.List.{drop_more}
use Rattle.json.specs.Value.{value_view, items_view}
use Rattle.cedar_json.specs.Entities.{entity_in, each_entity}
use Rattle.cedar_json.proofs.Appending.{none_left}
use Rattle.cedar_json.proofs.Sound.{some_read}
use Rattle.cedar_json.proofs.entities.are_entities.Goals as goal

pub returns-then-not-is_entity : goal.returns-then-not-is_entity
returns-then-not-is_entity c =
    let l = c.loop-item in
    let xs = c.deref-item-items.result.now in
    let x = c.item-item.result in
    let later = items_view (drop (l.item-index + 1) xs) in
    let here : drop l.item-index xs ≡ x ∷ drop (l.item-index + 1) xs = drop_more xs l.item-index x (omega arith)
    ∙ ap (λ y. y ∷ drop (l.item-index + 1) xs) (sym c.item-item.is) in
    let no : c.is_entity.result ≡ false = grind arith in
    sym (sym (ap (λ ys. is_some (each_entity (items_view ys))) c.deref-item-items.ensures.value) ∙ sym l.invariant
    ∙ ap (λ ys. is_some (each_entity (items_view ys))) here
    ∙ some_read (entity_in (value_view x)) (each_entity later) ∙ ap (λ b. b && is_some (each_entity later)) (sym c.is_entity.ensures ∙ no))

pub loop-item-preserved : goal.loop-item-preserved
loop-item-preserved c =
    let l = c.loop-item in
    let xs = c.deref-item-items.result.now in
    let x = c.item-item.result in
    let later = items_view (drop (l.item-index + 1) xs) in
    let here : drop l.item-index xs ≡ x ∷ drop (l.item-index + 1) xs = drop_more xs l.item-index x (omega arith)
    ∙ ap (λ y. y ∷ drop (l.item-index + 1) xs) (sym c.item-item.is) in
    let yes : c.is_entity.result ≡ true = grind arith in
    sym (ap (λ ys. is_some (each_entity (items_view ys))) here ∙ some_read (entity_in (value_view x)) (each_entity later)
    ∙ ap (λ b. b && is_some (each_entity later)) (sym c.is_entity.ensures ∙ yes)) ∙ l.invariant

pub returns : goal.returns
returns c =
    let l = c.loop-item in
    let xs = c.deref-item-items.result.now in
    let none : drop l.item-index xs ≡ [] = none_left xs l.item-index (omega arith) in
    sym (ap (λ ys. is_some (each_entity (items_view ys))) none) ∙ l.invariant
    ∙ ap (λ ys. is_some (each_entity (items_view ys))) c.deref-item-items.ensures.value
