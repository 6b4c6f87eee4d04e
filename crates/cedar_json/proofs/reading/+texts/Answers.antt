use Rattle.std.proofs.Common.{◌≡◌, ◌+◌, [], ◌∷◌, drop, ap, sym, ◌∙◌, subst, arith}
use Rattle.std.proofs.lemmas.List.{drop_more}
use Rattle.json.specs.Value.{value_view, items_view, members_view}
use Rattle.json.proofs.Trees.{view-Array, view-Object}
use Rattle.cedar_json.specs.Written.{AreTexts, ItemsAreTexts, MembersAreTexts}
use Rattle.cedar_json.proofs.Appending.{none_left}
use Rattle.cedar_json.proofs.reading.+texts.Goals as goal

pub holds_texts-returns-in-Array : goal.holds_texts-returns-in-Array
holds_texts-returns-in-Array t c = subst AreTexts (sym (ap value_view c.in-Array.is ∙ view-Array c.in-Array.items)) c.items_hold_texts.ensures

pub holds_texts-returns-in-Object : goal.holds_texts-returns-in-Object
holds_texts-returns-in-Object t c = subst AreTexts (sym (ap value_view c.in-Object.is ∙ view-Object c.in-Object.members)) c.members_hold_texts.ensures

pub items_hold_texts-loop-item-init : goal.items_hold_texts-loop-item-init
items_hold_texts-loop-item-init t c = λ h. h

pub items_hold_texts-loop-item-preserved : goal.items_hold_texts-loop-item-preserved
items_hold_texts-loop-item-preserved t c =
    let l = c.loop-item in
    let xs = c.deref-item-items.result.now in
    let x = c.item-item.result in
    let here : drop l.item-index xs ≡ x ∷ drop (l.item-index + 1) xs = drop_more xs l.item-index x (omega arith)
    ∙ ap (λ y. y ∷ drop (l.item-index + 1) xs) (sym c.item-item.is) in
    λ h. l.invariant (subst (λ ys. ItemsAreTexts (items_view ys)) (sym here) (c.holds_texts.ensures, h))

pub items_hold_texts-returns : goal.items_hold_texts-returns
items_hold_texts-returns t c =
    let l = c.loop-item in
    let xs = c.deref-item-items.result.now in
    let none : drop l.item-index xs ≡ [] = none_left xs l.item-index (omega arith) in
    subst (λ ys. ItemsAreTexts (items_view ys)) c.deref-item-items.ensures.value (l.invariant (subst (λ ys. ItemsAreTexts (items_view ys)) (sym none) tt))

pub members_hold_texts-loop-member-init : goal.members_hold_texts-loop-member-init
members_hold_texts-loop-member-init t c = λ h. h

pub members_hold_texts-loop-member-preserved : goal.members_hold_texts-loop-member-preserved
members_hold_texts-loop-member-preserved t c =
    let l = c.loop-member in
    let xs = c.deref-member-items.result.now in
    let x = c.member-item.result in
    let here : drop l.member-index xs ≡ x ∷ drop (l.member-index + 1) xs = drop_more xs l.member-index x (omega arith)
    ∙ ap (λ y. y ∷ drop (l.member-index + 1) xs) (sym c.member-item.is) in
    λ h. l.invariant (subst (λ ys. MembersAreTexts (members_view ys)) (sym here) (c.is_text.ensures, c.holds_texts.ensures, h))

pub members_hold_texts-returns : goal.members_hold_texts-returns
members_hold_texts-returns t c =
    let l = c.loop-member in
    let xs = c.deref-member-items.result.now in
    let none : drop l.member-index xs ≡ [] = none_left xs l.member-index (omega arith) in
    subst (λ ys. MembersAreTexts (members_view ys)) c.deref-member-items.ensures.value
    (l.invariant (subst (λ ys. MembersAreTexts (members_view ys)) (sym none) tt))
