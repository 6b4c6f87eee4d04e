use Rattle.std.proofs.Common.{◌≡◌, ◌+◌, true, false, ◌&&◌, is_some, refl, [], ◌∷◌, drop, ap, sym, ◌∙◌, subst, arith}
use Rattle.std.proofs.lemmas.List.{drop_more}
use Rattle.json.specs.Strict.{ItemsHaveUniqueKeys}
use Rattle.json.specs.Value.{value_view, items_view}
use Rattle.cedar_json.specs.Entities.{body_in, bodies_of}
use Rattle.cedar_json.proofs.Appending.{none_left}
use Rattle.cedar_json.proofs.Sound.{some_read}
use Rattle.cedar_json.proofs.entities.are_bodies.Goals as goal

pub loop-item-init : goal.loop-item-init
loop-item-init c = λ u. (u, refl)

pub returns-then-not-is_entity_body : goal.returns-then-not-is_entity_body
returns-then-not-is_entity_body c =
    let l = c.loop-item in
    let xs = c.deref-item-items.result.now in
    let x = c.item-item.result in
    let later = items_view (drop (l.item-index + 1) xs) in
    let here : drop l.item-index xs ≡ x ∷ drop (l.item-index + 1) xs = drop_more xs l.item-index x (omega arith)
    ∙ ap (λ y. y ∷ drop (l.item-index + 1) xs) (sym c.item-item.is) in
    let no : c.is_entity_body.result ≡ false = grind arith in
    λ u.
    let had = l.invariant (subst (λ ys. ItemsHaveUniqueKeys (items_view ys)) (sym c.deref-item-items.ensures.value) u) in
    let mine = (subst (λ ys. ItemsHaveUniqueKeys (items_view ys)) here had.0).0 in
    sym (sym (ap (λ ys. is_some (bodies_of (items_view ys))) c.deref-item-items.ensures.value) ∙ sym had.1 ∙ ap (λ ys. is_some (bodies_of (items_view ys))) here
    ∙ some_read (body_in (value_view x)) (bodies_of later) ∙ ap (λ b. b && is_some (bodies_of later)) (sym (c.is_entity_body.ensures mine) ∙ no))

pub loop-item-preserved : goal.loop-item-preserved
loop-item-preserved c =
    let l = c.loop-item in
    let xs = c.deref-item-items.result.now in
    let x = c.item-item.result in
    let later = items_view (drop (l.item-index + 1) xs) in
    let here : drop l.item-index xs ≡ x ∷ drop (l.item-index + 1) xs = drop_more xs l.item-index x (omega arith)
    ∙ ap (λ y. y ∷ drop (l.item-index + 1) xs) (sym c.item-item.is) in
    let yes : c.is_entity_body.result ≡ true = grind arith in
    λ u.
    let had = l.invariant u in
    let both = subst (λ ys. ItemsHaveUniqueKeys (items_view ys)) here had.0 in (
      both.1,
      sym (ap (λ ys. is_some (bodies_of (items_view ys))) here ∙ some_read (body_in (value_view x)) (bodies_of later)
          ∙ ap (λ b. b && is_some (bodies_of later)) (sym (c.is_entity_body.ensures both.0) ∙ yes)) ∙ had.1,
    )

pub returns : goal.returns
returns c =
    let l = c.loop-item in
    let xs = c.deref-item-items.result.now in
    let none : drop l.item-index xs ≡ [] = none_left xs l.item-index (omega arith) in
    λ u.
    let had = l.invariant (subst (λ ys. ItemsHaveUniqueKeys (items_view ys)) (sym c.deref-item-items.ensures.value) u) in
    sym (ap (λ ys. is_some (bodies_of (items_view ys))) none) ∙ had.1 ∙ ap (λ ys. is_some (bodies_of (items_view ys))) c.deref-item-items.ensures.value
