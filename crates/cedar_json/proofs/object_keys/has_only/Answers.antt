use Rattle.std.proofs.Common.{◌≡◌, ◌+◌, true, false, ◌&&◌, [], ◌∷◌, map, drop, ap, sym, ◌∙◌, arith}
use Rattle.std.proofs.lemmas.List.{drop_more}
use Rattle.json.specs.Value.{members_view}
use Rattle.cedar_json.specs.Entities.{only_under}
use Rattle.cedar_json.proofs.Appending.{none_left}
use Rattle.cedar_json.proofs.object_keys.has_only.Goals as goal

pub returns-then-not-is_one_of : goal.returns-then-not-is_one_of
returns-then-not-is_one_of c =
    let l = c.loop-member in
    let names = map (λ name. name.now) c.args.names.now in
    let xs = c.deref-member-items.result.now in
    let x = c.member-item.result in
    let later = members_view (drop (l.member-index + 1) xs) in
    let here : drop l.member-index xs ≡ x ∷ drop (l.member-index + 1) xs = drop_more xs l.member-index x (omega arith)
    ∙ ap (λ y. y ∷ drop (l.member-index + 1) xs) (sym c.member-item.is) in
    let no : c.is_one_of.result ≡ false = grind arith in
    sym (sym (ap (λ ys. only_under names (members_view ys)) c.deref-member-items.ensures.value) ∙ sym l.invariant
    ∙ ap (λ ys. only_under names (members_view ys)) here
    ∙ ap (λ b. b && only_under names later) (sym c.is_one_of.ensures ∙ no))

pub loop-member-preserved : goal.loop-member-preserved
loop-member-preserved c =
    let l = c.loop-member in
    let names = map (λ name. name.now) c.args.names.now in
    let xs = c.deref-member-items.result.now in
    let x = c.member-item.result in
    let later = members_view (drop (l.member-index + 1) xs) in
    let here : drop l.member-index xs ≡ x ∷ drop (l.member-index + 1) xs = drop_more xs l.member-index x (omega arith)
    ∙ ap (λ y. y ∷ drop (l.member-index + 1) xs) (sym c.member-item.is) in
    let yes : c.is_one_of.result ≡ true = grind arith in
    sym (ap (λ ys. only_under names (members_view ys)) here ∙ ap (λ b. b && only_under names later) (sym c.is_one_of.ensures ∙ yes))
    ∙ l.invariant

pub returns : goal.returns
returns c =
    let l = c.loop-member in
    let names = map (λ name. name.now) c.args.names.now in
    let xs = c.deref-member-items.result.now in
    let none : drop l.member-index xs ≡ [] = none_left xs l.member-index (omega arith) in
    sym (ap (λ ys. only_under names (members_view ys)) none) ∙ l.invariant
    ∙ ap (λ ys. only_under names (members_view ys)) c.deref-member-items.ensures.value
