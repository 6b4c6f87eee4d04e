use Rattle.std.proofs.Common.{◌≡◌, ◌+◌, ◌∷◌, drop, sym, ap, ◌∙◌, arith}
use Rattle.std.specs.Prelude.{string_bytes}
use Rattle.std.proofs.lemmas.List.{drop_more}
use Rattle.cedar_authorization_calls.proofs.Going.{one_on}
use Rattle.cedar_authorization_calls.proofs.responding.push_errors.Goals as goal

pub loop-name-preserved : goal.loop-name-preserved
loop-name-preserved c =
    let l = c.loop-name in
    let xs = c.args.names.now in
    let x = c.name-item.result in
    let here : drop l.name-index xs ≡ x ∷ drop (l.name-index + 1) xs = drop_more xs l.name-index x (omega arith)
    ∙ ap (λ y. y ∷ drop (l.name-index + 1) xs) (sym c.name-item.is) in
    one_on string_bytes (λ e. e.policy.now) xs l.name-index x c.in_ok-error.error _ l.errors.items _ here l.invariant c.in_ok-push.ensures.items
    (c.in_ok-error.ensures ∙ c.as_str.ensures.value)
