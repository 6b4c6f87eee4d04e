-- The copy that is edited holds what the store holds.
use Rattle.std.proofs.Common.{Ok, Err, refl, sym, subst}
use Rattle.cedar_entities.specs.InPlace.{left_by}
use Rattle.cedar_entities.specs.Store.{found_in, held_at, AddsAs, Adds}
use Rattle.cedar_entities.specs.declared.closing.TCComputation.TheVariants.{ComputeNow}
use Rattle.cedar_entities.proofs.InPlace.{copy_found, copy_held, copy_keeps}
use Rattle.cedar_entities.proofs.Passing.{at_err}
use Rattle.cedar_entities.proofs.store.Entities.add_copied.Goals as goal

pub returns-in_err-self-clause-edited : goal.returns-in_err-self-clause-edited
returns-in_err-self-clause-edited c =
    let s = c.args.self.now in
    let es = c.args.entities.items in
    at_err (λ r. AddsAs ComputeNow (found_in s) es (left_by r s)) _ c.from_residual-in_err-self.result c.from_residual-in_err-self.ensures.1 (λ e is.
    subst (λ x. AddsAs ComputeNow (found_in s) es (Err x)) (sym is) (subst (λ f. AddsAs ComputeNow f es (Err c.in_err-self.field-0.0)) (copy_found s c.in_ok-copy.copy c.in_ok-copy.ensures) c.in_err-self.ensures.edited))

pub returns-in_err-self-clause-added : goal.returns-in_err-self-clause-added
returns-in_err-self-clause-added c = λ closed plain.
    let s = c.args.self.now in
    let es = c.args.entities.items in
    let added = c.in_err-self.ensures.added refl (copy_keeps s c.in_ok-copy.copy c.in_ok-copy.ensures closed) plain in
    at_err (λ r. Adds (held_at s) es (left_by r s)) _ c.from_residual-in_err-self.result c.from_residual-in_err-self.ensures.1 (λ e is.
    subst (λ x. Adds (held_at s) es (Err x)) (sym is) (subst (λ h. Adds h es (Err c.in_err-self.field-0.0)) (copy_held s c.in_ok-copy.copy c.in_ok-copy.ensures) added))

pub returns-clause-edited : goal.returns-clause-edited
returns-clause-edited c =
    subst (λ f. AddsAs ComputeNow f c.args.entities.items (Ok c.in_ok-self.field-0)) (copy_found c.args.self.now c.in_ok-copy.copy c.in_ok-copy.ensures) c.in_ok-self.ensures.edited

pub returns-clause-added : goal.returns-clause-added
returns-clause-added c = λ closed plain.
    let s = c.args.self.now in
    let added = c.in_ok-self.ensures.added refl (copy_keeps s c.in_ok-copy.copy c.in_ok-copy.ensures closed) plain in
    subst (λ h. Adds h c.args.entities.items (Ok c.in_ok-self.field-0)) (copy_held s c.in_ok-copy.copy c.in_ok-copy.ensures) added
