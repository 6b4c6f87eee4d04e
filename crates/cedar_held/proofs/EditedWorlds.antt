-- What edits leave at each uid.
use Rattle.std.proofs.Common.{◌≡◌, Bool, true, false, cond, Option, None, Some, Result, Ok, Err, List, [], ◌∷◌, option_map, refl, sym, ap, ◌∙◌}
use Rattle.std.specs.FinMap as finite
use Rattle.std.specs.FinSet as set
use Rattle.cedar_language.specs.Uid.{Uid}
use Rattle.cedar_language.specs.Order.{same_uid}
use Rattle.cedar_closure.specs.declared.errors.TcError.{TcError}
use Rattle.cedar_closure.specs.declared.errors.TcError.TheVariants as closure
use Rattle.cedar_world.specs.Orders.{UidSet, uid_eq}
use Rattle.cedar_world.specs.World as world
use Rattle.cedar_world.specs.World.{IsCyclic}
use Rattle.cedar_world.specs.EntityEdits as world_edits
use Rattle.cedar_world.specs.EntityEdits.{Version}
use Rattle.cedar_world.specs.EditLaws as laws
use Rattle.cedar_world.specs.EditLaws.{EditsAtUids, last_version}
use Rattle.cedar_entities.specs.Held.{Held, held_of, IsAncestor}
use Rattle.cedar_entities.specs.Edits.{last_by, first_by, or_first, put, add, remove, without_parents}
use Rattle.cedar_entities.specs.Refusals.{IsCycle}
use Rattle.cedar_entities.specs.Store.{held_at, IsClosed, Leaves}
use Rattle.cedar_entities.specs.declared.errors.EntitiesError.{EntitiesError}
use Rattle.cedar_entities.specs.declared.errors.EntitiesError.TheVariants.{Duplicate, TransitiveClosureError, Memory}
use Rattle.cedar_entities.specs.declared.store.Entities.{Entities}
use Rattle.cedar_held.specs.Shown.{as_held, as_entities, Shows}
use Rattle.cedar_held.specs.StoreWorlds.{IsPut, IsRemoved}
use Rattle.cedar_held.proofs.Shown.{uid_tests, to_world, to_store}

picked : (b c : Bool) (h : world.EntityData) (o : Option world.EntityData) → b ≡ c → cond b (Some (as_held h)) (option_map as_held o) ≡ option_map as_held (cond c (Some h) o)
picked b true h o e = ap (λ x. cond x (Some (as_held h)) (option_map as_held o)) e
picked b false h o e = ap (λ x. cond x (Some (as_held h)) (option_map as_held o)) e

-- the last version of a uid, and the first
last_shown : (vs : List Version) (uid : Uid) (o : Option world.EntityData) → last_by held_of (as_entities vs) uid (option_map as_held o) ≡ option_map as_held (last_version vs uid o)
last_shown [] uid o = refl
last_shown (v ∷ vs) uid o =
    ap (last_by held_of (as_entities vs) uid) (picked (same_uid v.uid uid) (uid_eq uid v.uid) v.held o (uid_tests v.uid uid))
    ∙ last_shown vs uid (cond (uid_eq uid v.uid) (Some v.held) o)

pub first_shown : (vs : List Version) (uid : Uid) → first_by held_of (as_entities vs) uid ≡ option_map as_held (world_edits.first_of vs uid)
first_shown [] uid = refl
first_shown (v ∷ vs) uid =
    ap (cond (same_uid v.uid uid) (Some (as_held v.held))) (first_shown vs uid)
    ∙ picked (same_uid v.uid uid) (uid_eq uid v.uid) v.held (world_edits.first_of vs uid) (uid_tests v.uid uid)

or_shown : (o p : Option world.EntityData) → or_first (option_map as_held o) (option_map as_held p) ≡ option_map as_held (laws.or_first o p)
or_shown None p = refl
or_shown (Some h) p = refl

cut_shown : (uids : UidSet) (b : Bool) (o : Option world.EntityData) → cond b None (option_map (without_parents uids) (option_map as_held o)) ≡ option_map as_held (cond b None (option_map (world_edits.without uids) o))
cut_shown uids true o = refl
cut_shown uids false None = refl
cut_shown uids false (Some h) = refl

module _ (at_uids : EditsAtUids) (held : Uid → Option Held) (old : world.Entities) (shows : Shows held old) where
  pub put_shown : (vs : List Version) → Shows (put held (as_entities vs)) (world_edits.put old vs)
  put_shown vs uid =
      ap (last_by held_of (as_entities vs) uid) (shows uid)
      ∙ last_shown vs uid (finite.get old uid)
      ∙ ap (option_map as_held) (sym (at_uids.after_put old vs uid))

  pub add_shown : (vs : List Version) → Shows (add held (as_entities vs)) (world_edits.add old vs)
  add_shown vs uid =
      ap (λ o. or_first o (first_by held_of (as_entities vs) uid)) (shows uid)
      ∙ ap (or_first (option_map as_held (finite.get old uid))) (first_shown vs uid)
      ∙ or_shown (finite.get old uid) (world_edits.first_of vs uid)
      ∙ ap (option_map as_held) (sym (at_uids.after_add old vs uid))

  pub remove_shown : (uids : UidSet) → Shows (remove held uids) (world_edits.remove old uids)
  remove_shown uids uid =
      ap (λ o. cond (set.contains uids uid) None (option_map (without_parents uids) o)) (shows uid)
      ∙ cut_shown uids (set.contains uids uid) (finite.get old uid)
      ∙ ap (option_map as_held) (sym (at_uids.after_remove old uids uid))

-- ---- cycles

module _ (held : Uid → Option Held) (left : world.Entities) (shows : Shows held left) where
  pub cyclic : (e : TcError Uid) → IsCycle (IsAncestor held) e → IsCyclic left
  cyclic (closure.MissingTcEdge e) h = absurd h
  cyclic (closure.HasCycle e) h = (e.vertex_with_loop, to_world held left shows e.vertex_with_loop e.vertex_with_loop h)
  cyclic (closure.Memory e) h = absurd h

-- a closed store has no cycle
module _ (s : Entities) (left : world.Entities) (closed : IsClosed s) (shows : Shows (held_at s) left) where
  pub acyclic : ¬ (IsCyclic left)
  acyclic c = closed.acyclic c.0 (to_store (held_at s) left shows c.0 c.0 c.1)

module _ (at_uids : EditsAtUids) (held : Uid → Option Held) (old : world.Entities) (shows : Shows held old) where
  pub puts : (vs : List Version) (r : Result Entities EntitiesError) → Leaves (put held (as_entities vs)) r → IsPut old vs r
  puts vs (Ok s) h =
      let shown : Shows (held_at s) (world_edits.put old vs) = λ uid. h.0 uid ∙ put_shown at_uids held old shows vs uid in
      record { shows = shown; takes = (refl, acyclic s (world_edits.put old vs) h.1 shown) }
  puts vs (Err (Duplicate e)) h = h
  puts vs (Err (TransitiveClosureError e)) h = cyclic (put held (as_entities vs)) (world_edits.put old vs) (put_shown at_uids held old shows vs) e h
  puts vs (Err (Memory e)) h = h

  pub removes : (uids : UidSet) (r : Result Entities EntitiesError) → Leaves (remove held uids) r → IsRemoved old uids r
  removes uids (Ok s) h = record { shows = λ uid. h.0 uid ∙ remove_shown at_uids held old shows uids uid; takes = refl }
  removes uids (Err (Duplicate e)) h = h
  removes uids (Err (TransitiveClosureError e)) h = cyclic (remove held uids) (world_edits.remove old uids) (remove_shown at_uids held old shows uids) e h
  removes uids (Err (Memory e)) h = h
