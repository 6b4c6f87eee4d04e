-- The entities put stand under their own uids; the last version of each is what is held (Lookups).
use Rattle.std.proofs.Common.{subst, IfSome}
use Rattle.cedar_entities.specs.Kept.{in_map, put_over}
use Rattle.cedar_entities.specs.Store.{found_in, held_at, IsClosed, Edits}
use Rattle.cedar_entities.specs.Beside.{CoversEntities}
use Rattle.cedar_entities.specs.Edits.{put}
use Rattle.cedar_entities.proofs.Lookups.{held-last}
use Rattle.cedar_entities.proofs.ByUid.{put_by_uid, by_uid_along}
use Rattle.cedar_entities.proofs.Untouched.{put_stale}
use Rattle.cedar_entities.proofs.Edited.{leaves}
use Rattle.cedar_entities.proofs.store.Entities.upsert_entities.Goals as goal

pub closed-requires-clause-by_uid : goal.closed-requires-clause-by_uid
closed-requires-clause-by_uid c = by_uid_along _ (in_map c.put_all.new.map) c.in_ok-put_all.ensures.put (put_by_uid (found_in c.args.self) c.args.entities.items c.args.self.by_uid)

pub closed-requires-clause-stale : goal.closed-requires-clause-stale
closed-requires-clause-stale c =
    put_stale (λ v. v.items) (found_in c.args.self) (in_map c.put_all.new.map) c.in_ok-stale.stale c.args.entities.items
    (subst (λ es. IfSome c.in_ok-stale.stale (λ uids. IsClosed c.args.self × CoversEntities (found_in c.args.self) es uids.items)) c.deref.ensures.value c.in_ok-stale.ensures) c.in_ok-put_all.ensures.put

pub returns-clause-edited : goal.returns-clause-edited
returns-clause-edited c = subst (λ f. Edits c.args.tc_computation f c.closed.result) (λ i uid. c.in_ok-put_all.ensures.put uid i) c.closed.ensures.edited

pub returns-clause-put : goal.returns-clause-put
returns-clause-put c = λ now.
    let found = found_in c.args.self in
    let es = c.args.entities.items in
    leaves (put_over found es) (put (held_at c.args.self) es) (λ uid. held-last es uid (found uid)) c.closed.result
    (subst (λ m. Edits m (put_over found es) c.closed.result) now (returns-clause-edited c))
