-- The copy that is edited holds what the store holds.
use Rattle.std.proofs.Common.{Err, IfErr, refl, sym, subst}
use Rattle.std.specs.FinSet as set
use Rattle.cedar_entities.specs.Edits.{remove}
use Rattle.cedar_entities.specs.InPlace.{left_by}
use Rattle.cedar_entities.specs.Refusals.{IsMemory}
use Rattle.cedar_entities.specs.Store.{held_at, Leaves}
use Rattle.cedar_entities.proofs.InPlace.{copy_held, copy_keeps}
use Rattle.cedar_entities.proofs.Passing.{at_err}
use Rattle.cedar_entities.proofs.store.Entities.remove_copied.Goals as goal

pub returns-in_err-self-clause-removed : goal.returns-in_err-self-clause-removed
returns-in_err-self-clause-removed c =
    let s = c.args.self.now in
    let gone = set.from_list c.args.uids.now.keys in
    at_err (λ r. Leaves (remove (held_at s) gone) (left_by r s)) _ c.from_residual-in_err-self.result c.from_residual-in_err-self.ensures.1 (λ e is.
    subst (λ x. Leaves (remove (held_at s) gone) (Err x)) (sym is) (subst (λ h. Leaves (remove h gone) (Err c.in_err-self.field-0.0)) (copy_held s c.in_ok-copy.copy c.in_ok-copy.ensures) (c.in_err-self.ensures.removed refl)))

pub returns-in_err-self-clause-only_memory : goal.returns-in_err-self-clause-only_memory
returns-in_err-self-clause-only_memory c = λ closed.
    let only = c.in_err-self.ensures.only_memory refl (copy_keeps c.args.self.now c.in_ok-copy.copy c.in_ok-copy.ensures closed) in
    at_err (λ r. IfErr r IsMemory) _ c.from_residual-in_err-self.result c.from_residual-in_err-self.ensures.1 (λ e is. subst IsMemory (sym is) only)
