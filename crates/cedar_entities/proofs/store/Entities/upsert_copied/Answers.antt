-- The copy that is edited holds what the store holds.
use Rattle.std.proofs.Common.{Err, refl, sym, subst}
use Rattle.cedar_entities.specs.Edits.{put}
use Rattle.cedar_entities.specs.InPlace.{left_by}
use Rattle.cedar_entities.specs.Store.{held_at, Leaves}
use Rattle.cedar_entities.proofs.InPlace.{copy_held}
use Rattle.cedar_entities.proofs.Passing.{at_err}
use Rattle.cedar_entities.proofs.store.Entities.upsert_copied.Goals as goal

pub returns-in_err-self-clause-put : goal.returns-in_err-self-clause-put
returns-in_err-self-clause-put c =
    let s = c.args.self.now in
    let es = c.args.entities.items in
    at_err (λ r. Leaves (put (held_at s) es) (left_by r s)) _ c.from_residual-in_err-self.result c.from_residual-in_err-self.ensures.1 (λ e is.
    subst (λ x. Leaves (put (held_at s) es) (Err x)) (sym is) (subst (λ h. Leaves (put h es) (Err c.in_err-self.field-0.0)) (copy_held s c.in_ok-copy.copy c.in_ok-copy.ensures) (c.in_err-self.ensures.put refl)))
