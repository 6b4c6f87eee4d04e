use Rattle.std.proofs.Common.{◌≡◌, ◌+◌, [], ◌∷◌, drop, ap, sym, ◌∙◌, arith}
use Rattle.std.proofs.lemmas.List.{drop_more}
use Rattle.json.specs.Json.{array, item}
use Rattle.json.specs.Value.{items_view}
use Rattle.json.proofs.Trees.{view-Array}
use Rattle.cedar_json.specs.Answers.{errors_told}
use Rattle.cedar_json.specs.Bodies.{before}
use Rattle.cedar_json.proofs.AnswerTexts.{item_pushed}
use Rattle.cedar_json.proofs.Appending.{none_left}
use Rattle.cedar_json.proofs.Splitting.{before_none}
use Rattle.cedar_json.proofs.answers.errors_value.Goals as goal

pub loop-entry-init : goal.loop-entry-init
loop-entry-init c = ap (λ vs. before (items_view vs) (errors_told c.args.entries.now)) c.new-items.ensures.items

pub loop-entry-preserved : goal.loop-entry-preserved
loop-entry-preserved c =
    let l = c.loop-entry in
    let xs = c.args.entries.now in
    let x = c.entry-item.result in
    let rest = errors_told (drop (l.entry-index + 1) xs) in
    let here : drop l.entry-index xs ≡ x ∷ drop (l.entry-index + 1) xs = drop_more xs l.entry-index x (omega arith)
    ∙ ap (λ y. y ∷ drop (l.entry-index + 1) xs) (sym c.entry-item.is) in
    ap (λ vs. before (items_view vs) rest) c.in_ok-push.ensures.items ∙ item_pushed l.items.items _ rest
    ∙ ap (before (items_view l.items.items)) (ap (λ j. item j rest) c.in_ok-item.ensures ∙ sym (ap errors_told here)) ∙ l.invariant

pub returns : goal.returns
returns c =
    let l = c.loop-entry in
    let xs = c.args.entries.now in
    let none : drop l.entry-index xs ≡ [] = none_left xs l.entry-index (omega arith) in
    view-Array l.items
    ∙ ap array (sym (before_none (items_view l.items.items)) ∙ ap (λ ys. before (items_view l.items.items) (errors_told ys)) (sym none) ∙ l.invariant)
