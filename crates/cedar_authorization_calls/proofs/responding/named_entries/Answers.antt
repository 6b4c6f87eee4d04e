use Rattle.std.proofs.Common.{◌≡◌, ◌+◌, ◌++◌, ◌∷◌, [], drop, map, sym, ap, ◌∙◌, arith}
use Rattle.std.proofs.lemmas.List.{drop_more}
use Rattle.cedar_authorization_calls.specs.Naming.{names_at}
use Rattle.cedar_authorization_calls.proofs.Going.{gone_on}
use Rattle.cedar_authorization_calls.proofs.responding.named_entries.Goals as goal

pub loop-entry-preserved : goal.loop-entry-preserved
loop-entry-preserved c =
    let l = c.loop-entry in
    let xs = c.args.entries.now in
    let x = c.entry-item.result in
    let here : drop l.entry-index xs ≡ x ∷ drop (l.entry-index + 1) xs = drop_more xs l.entry-index x (omega arith)
    ∙ ap (λ y. y ∷ drop (l.entry-index + 1) xs) (sym c.entry-item.is) in
    gone_on (λ e. names_at c.args.names.now e.0) xs l.entry-index x [] _ _ here l.invariant
    (c.in_ok-push_errors.ensures ∙ ap (λ ns. map (λ e. e.policy.now) l.errors.items ++ ns) c.at.ensures)
