-- The type that is kept is the one that was looked for.
use Rattle.std.proofs.Common.{◌≡◌, IfOk, slice_index_or, sym, ap, subst, ◌∙◌}
use Rattle.cedar_policy_conversion.proofs.Alike.{name_found}
use Rattle.cedar_policy_conversion.proofs.sharing.SharedTypes.entity_type.Goals as goal

pub returns-in-Ok : goal.returns-in-Ok
returns-in-Ok c =
    let n = c.index.result.now in
    let found = name_found c.deref.result.now c.args.entity_type.now n c.in-Ok.index c.in-Ok.ensures.ok
    (c.index.ensures ∙ ap (λ ns. slice_index_or ns c.in-Ok.index n) (sym c.deref.ensures.value)) in
    subst (λ wanted. IfOk c.clone.result (λ shared. shared ≡ wanted)) found c.clone.ensures
