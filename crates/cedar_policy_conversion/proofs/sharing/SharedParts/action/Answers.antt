-- The action that is kept is the one that was looked for.
use Rattle.std.proofs.Common.{◌≡◌, IfOk, slice_index_or, sym, ap, subst, ◌∙◌}
use Rattle.cedar_policy_conversion.proofs.Alike.{uid_found, value_or_error}
use Rattle.cedar_policy_conversion.proofs.sharing.SharedParts.action.Goals as goal

pub returns-in-Ok : goal.returns-in-Ok
returns-in-Ok c =
    let u = c.index.result.now in
    let found = uid_found c.deref.result.now c.args.action.now u c.in-Ok.index c.in-Ok.ensures.ok
    (c.index.ensures ∙ ap (λ us. slice_index_or us c.in-Ok.index u) (sym c.deref.ensures.value)) in
    subst (λ wanted. IfOk c.clone.result (λ shared. shared.value ≡ wanted)) found (value_or_error _ _ c.clone.result c.clone.ensures.cases)
