-- The entities left stand under their own uids; without edges to those removed no new cycle comes (Edited).
use Rattle.std.proofs.Common.{sym, subst}
use Rattle.std.specs.FinSet as set
use Rattle.cedar_entities.specs.Kept.{in_map, removed_from, Covers}
use Rattle.cedar_entities.specs.Store.{found_in, held_at, Edits}
use Rattle.cedar_entities.specs.Edits.{remove}
use Rattle.cedar_entities.proofs.Lookups.{held-removed}
use Rattle.cedar_entities.proofs.ByUid.{removed_by_uid, by_uid_along}
use Rattle.cedar_entities.proofs.Whole.{kept_of_whole}
use Rattle.cedar_entities.proofs.Untouched.{some_weaker, remove_stale}
use Rattle.cedar_entities.proofs.Edited.{leaves, only_memory}
use Rattle.cedar_entities.proofs.store.Entities.remove_entities.Goals as goal

pub closed-requires-clause-by_uid : goal.closed-requires-clause-by_uid
closed-requires-clause-by_uid c = by_uid_along _ (in_map c.remove_all.new.map) c.remove_all.ensures (removed_by_uid (found_in c.args.self) (set.from_list c.args.uids.now.keys) c.args.self.by_uid)

pub remove_all-requires : goal.remove_all-requires
remove_all-requires c = subst (Covers (found_in c.args.self) c.args.uids.now.keys) (sym c.deref.ensures.value) c.in_ok-touched.ensures

pub closed-requires-clause-stale : goal.closed-requires-clause-stale
closed-requires-clause-stale c =
    let found = found_in c.args.self in
    let gone = c.args.uids.now.keys in
    remove_stale (λ v. v.items) found (in_map c.remove_all.new.map) c.few-stale.result gone
    (some_weaker _ _ (λ some h. (kept_of_whole found (c.args.self.closed h.0), subst (Covers found gone) (sym h.1) c.in_ok-touched.ensures)) c.few-stale.result c.few-stale.ensures)
    c.remove_all.ensures

pub returns-clause-edited : goal.returns-clause-edited
returns-clause-edited c = subst (λ f. Edits c.args.tc_computation f c.closed.result) (λ i uid. c.remove_all.ensures uid i) c.closed.ensures.edited

pub returns-clause-removed : goal.returns-clause-removed
returns-clause-removed c = λ now.
    let found = found_in c.args.self in
    let gone = set.from_list c.args.uids.now.keys in
    leaves (removed_from found gone) (remove (held_at c.args.self) gone) (held-removed found gone) c.closed.result
    (subst (λ m. Edits m (removed_from found gone) c.closed.result) now (returns-clause-edited c))

pub returns-clause-only_memory : goal.returns-clause-only_memory
returns-clause-only_memory c = λ now closed.
    let found = found_in c.args.self in
    let gone = set.from_list c.args.uids.now.keys in
    only_memory found gone closed.acyclic c.closed.result (subst (λ m. Edits m (removed_from found gone) c.closed.result) now (returns-clause-edited c))
