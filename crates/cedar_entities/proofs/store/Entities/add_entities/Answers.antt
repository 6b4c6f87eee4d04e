-- The entities added stand under their own uids; what was added and then closed is the edit in each mode (Edited).
use Rattle.cedar_entities.specs.Refusals.{IsAddRefusal}
use Rattle.std.proofs.Common.{sym, subst, Err, IfSome}
use Rattle.cedar_entities.specs.Kept.{in_map, held_in}
use Rattle.cedar_entities.specs.declared.closing.TCComputation.TheVariants.{ComputeNow}
use Rattle.cedar_entities.specs.Store.{found_in, IsClosed, Edits, AddsAs, Adds}
use Rattle.cedar_entities.specs.Beside.{CoversEntities}
use Rattle.cedar_entities.proofs.ByUid.{added_by_uid, by_uid_along}
use Rattle.cedar_entities.proofs.Untouched.{add_stale}
use Rattle.cedar_entities.proofs.Edited.{adds, added_as, adding_refused}
use Rattle.cedar_entities.proofs.Passing.{at_err}
use Rattle.cedar_entities.proofs.store.Entities.add_entities.Goals as goal

pub returns-in_err-add_all-clause-added : goal.returns-in_err-add_all-clause-added
returns-in_err-add_all-clause-added c = λ now closed plain.
    let found = found_in c.args.self in
    let es = c.args.entities.items in
    at_err (Adds (held_in found) es) _ c.from_residual-in_err-add_all.result c.from_residual-in_err-add_all.ensures.1 (λ e is.
    adds found es closed c.args.self.by_uid plain (Err e) (adding_refused ComputeNow found es e (subst (λ x. IsAddRefusal found es x) (sym is) c.in_err-add_all.ensures.refused)))

pub closed-requires-clause-by_uid : goal.closed-requires-clause-by_uid
closed-requires-clause-by_uid c = by_uid_along _ (in_map c.add_all.new.map) c.in_ok-add_all.ensures.added (added_by_uid (found_in c.args.self) c.args.entities.items c.args.self.by_uid)

pub closed-requires-clause-stale : goal.closed-requires-clause-stale
closed-requires-clause-stale c =
    add_stale (λ v. v.items) (found_in c.args.self) (in_map c.add_all.new.map) c.in_ok-stale.stale c.args.entities.items
    (subst (λ es. IfSome c.in_ok-stale.stale (λ uids. IsClosed c.args.self × CoversEntities (found_in c.args.self) es uids.items)) c.deref.ensures.value c.in_ok-stale.ensures) c.in_ok-add_all.ensures.added

pub returns-clause-edited : goal.returns-clause-edited
returns-clause-edited c =
    added_as c.args.tc_computation (found_in c.args.self) c.args.entities.items c.in_ok-add_all.ensures.versions c.closed.result
    (subst (λ f. Edits c.args.tc_computation f c.closed.result) (λ i uid. c.in_ok-add_all.ensures.added uid i) c.closed.ensures.edited)

pub returns-clause-added : goal.returns-clause-added
returns-clause-added c = λ now closed plain.
    let found = found_in c.args.self in
    let es = c.args.entities.items in
    adds found es closed c.args.self.by_uid plain c.closed.result (subst (λ m. AddsAs m found es c.closed.result) now (returns-clause-edited c))
