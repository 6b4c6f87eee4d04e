use Rattle.std.proofs.Common.{◌≡◌, ◌+◌, true, false, cond, Some, [], ◌∷◌, drop, ap, sym, ◌∙◌, arith}
use Rattle.std.proofs.lemmas.List.{drop_more}
use Rattle.json.specs.Value.{value_view, members_view}
use Rattle.cedar_grammar.specs.Names.{is_text}
use Rattle.cedar_json.specs.Entities.{under}
use Rattle.cedar_json.proofs.Appending.{none_left}
use Rattle.cedar_json.proofs.Taken.{same_flipped, other_flipped}
use Rattle.cedar_json.proofs.writing.find.Goals as goal

pub returns-then-eq : goal.returns-then-eq
returns-then-eq c =
    let l = c.loop-member in
    let xs = c.deref-member-items.result.now in
    let x = c.member-item.result in
    let key = c.args.key.now in
    let later = members_view (drop (l.member-index + 1) xs) in
    let here : drop l.member-index xs ≡ x ∷ drop (l.member-index + 1) xs = drop_more xs l.member-index x (omega arith)
    ∙ ap (λ y. y ∷ drop (l.member-index + 1) xs) (sym c.member-item.is) in
    let flipped : is_text x.0.now key ≡ true = grind arith in
    let same : is_text key x.0.now ≡ true = same_flipped x.0.now key flipped in
    sym (sym (ap (λ ys. under key (members_view ys)) c.deref-member-items.ensures.value) ∙ sym l.invariant ∙ ap (λ ys. under key (members_view ys)) here
    ∙ ap (λ b. cond b (Some (value_view x.1)) (under key later)) same)

pub loop-member-preserved : goal.loop-member-preserved
loop-member-preserved c =
    let l = c.loop-member in
    let xs = c.deref-member-items.result.now in
    let x = c.member-item.result in
    let key = c.args.key.now in
    let later = members_view (drop (l.member-index + 1) xs) in
    let here : drop l.member-index xs ≡ x ∷ drop (l.member-index + 1) xs = drop_more xs l.member-index x (omega arith)
    ∙ ap (λ y. y ∷ drop (l.member-index + 1) xs) (sym c.member-item.is) in
    let flipped : is_text x.0.now key ≡ false = grind arith in
    let other : is_text key x.0.now ≡ false = other_flipped x.0.now key flipped in
    sym (ap (λ ys. under key (members_view ys)) here ∙ ap (λ b. cond b (Some (value_view x.1)) (under key later)) other) ∙ l.invariant

pub returns : goal.returns
returns c =
    let l = c.loop-member in
    let xs = c.deref-member-items.result.now in
    let key = c.args.key.now in
    let none : drop l.member-index xs ≡ [] = none_left xs l.member-index (omega arith) in
    sym (sym (ap (λ ys. under key (members_view ys)) c.deref-member-items.ensures.value) ∙ sym l.invariant ∙ ap (λ ys. under key (members_view ys)) none)
