use Rattle.std.proofs.Common.{◌≡◌, ◌+◌, ◌∷◌, drop, sym, ap, ◌∙◌, arith}
use Rattle.std.specs.Prelude.{string_bytes}
use Rattle.std.proofs.lemmas.List.{drop_more}
use Rattle.cedar_authorization_calls.proofs.Going.{one_on}
use Rattle.cedar_authorization_calls.proofs.names.push_all.Goals as goal

pub loop-name-preserved : goal.loop-name-preserved
loop-name-preserved c =
    let l = c.loop-name in
    let xs = c.args.names.now in
    let x = c.name-item.result in
    let here : drop l.name-index xs ≡ x ∷ drop (l.name-index + 1) xs = drop_more xs l.name-index x (omega arith)
    ∙ ap (λ y. y ∷ drop (l.name-index + 1) xs) (sym c.name-item.is) in
    one_on string_bytes (λ n. n.now) xs l.name-index x c.as_str.result _ l.told.items _ here l.invariant c.in_ok-push.ensures.items c.as_str.ensures.value
