use Rattle.std.proofs.Common.{◌≡◌, ◌+◌, ◌∷◌, [], drop, sym, ap, ◌∙◌, arith}
use Rattle.std.proofs.lemmas.List.{drop_more}
use Rattle.cedar_authorization_calls.specs.Naming.{names_at}
use Rattle.cedar_authorization_calls.proofs.Going.{gone_on}
use Rattle.cedar_authorization_calls.proofs.names.Names.told.Goals as goal

pub loop-id-preserved : goal.loop-id-preserved
loop-id-preserved c =
    let l = c.loop-id in
    let xs = c.args.ids.now in
    let x = c.id-item.result in
    let here : drop l.id-index xs ≡ x ∷ drop (l.id-index + 1) xs = drop_more xs l.id-index x (omega arith)
    ∙ ap (λ y. y ∷ drop (l.id-index + 1) xs) (sym c.id-item.is) in
    gone_on (names_at c.args.self.now) xs l.id-index x [] _ _ here l.invariant c.in_ok-push_at.ensures
