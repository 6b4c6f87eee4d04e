use Rattle.std.proofs.Common.{◌≡◌, ◌+◌, [], ◌∷◌, drop, ap, sym, ◌∙◌, arith}
use Rattle.std.proofs.lemmas.List.{drop_more}
use Rattle.json.specs.Json.{string, array, item}
use Rattle.json.specs.Value.{items_view}
use Rattle.json.specs.declared.value.Value.{String}
use Rattle.json.proofs.Trees.{view-Array}
use Rattle.cedar_json.specs.Answers.{strings}
use Rattle.cedar_json.specs.Bodies.{before}
use Rattle.cedar_json.proofs.AnswerTexts.{item_pushed, view-String}
use Rattle.cedar_json.proofs.Appending.{none_left}
use Rattle.cedar_json.proofs.Splitting.{before_none}
use Rattle.cedar_json.proofs.answers.ids_value.Goals as goal

pub loop-id-init : goal.loop-id-init
loop-id-init c = ap (λ vs. before (items_view vs) (strings c.args.ids.now)) c.new-items.ensures.items

pub loop-id-preserved : goal.loop-id-preserved
loop-id-preserved c =
    let l = c.loop-id in
    let xs = c.args.ids.now in
    let x = c.id-item.result in
    let rest = strings (drop (l.id-index + 1) xs) in
    let here : drop l.id-index xs ≡ x ∷ drop (l.id-index + 1) xs = drop_more xs l.id-index x (omega arith)
    ∙ ap (λ y. y ∷ drop (l.id-index + 1) xs) (sym c.id-item.is) in
    ap (λ vs. before (items_view vs) rest) c.in_ok-push.ensures.items ∙ item_pushed l.items.items (String c.as_str.result) rest
    ∙ ap (before (items_view l.items.items)) (ap (λ j. item j rest) (view-String _ c.as_str.result ∙ ap string c.as_str.ensures)
    ∙ sym (ap strings here)) ∙ l.invariant

pub returns : goal.returns
returns c =
    let l = c.loop-id in
    let xs = c.args.ids.now in
    let none : drop l.id-index xs ≡ [] = none_left xs l.id-index (omega arith) in
    view-Array l.items
    ∙ ap array (sym (before_none (items_view l.items.items)) ∙ ap (λ ys. before (items_view l.items.items) (strings ys)) (sym none) ∙ l.invariant)
