-- Edits of a store.
use Rattle.std.proofs.Common.{◌≡◌, refl, sym, subst, Result, Err, List, [], ◌∷◌}
use Rattle.cedar_world.specs.Orders.{UidSet}
use Rattle.cedar_world.specs.World as world
use Rattle.cedar_world.specs.EntityEdits.{Version}
use Rattle.cedar_entities.specs.Data.{EntityData}
use Rattle.cedar_entities.specs.Edits.{put, remove, ArePlain}
use Rattle.cedar_entities.specs.Refusals.{IsMemory}
use Rattle.cedar_entities.specs.Store.{held_at, IsClosed, Leaves, Adds}
use Rattle.cedar_entities.specs.declared.errors.EntitiesError.{EntitiesError}
use Rattle.cedar_entities.specs.declared.errors.EntitiesError.TheVariants.{Duplicate, TransitiveClosureError, Memory}
use Rattle.cedar_entities.specs.declared.store.Entities.{Entities}
use Rattle.cedar_held.specs.Shown.{as_entities, Shows}
use Rattle.cedar_held.specs.StoreWorlds.{IsPut, IsAdded, IsRemoved, PutsAreTheWorlds, AddsAreTheWorlds, RemovesAreTheWorlds}
use Rattle.cedar_held.specs.Refusals.{refusal_of}
use Rattle.cedar_held.specs.Stores.{PutsVersions, AddsVersions, RemovesUids}

-- versions keep no ancestors beside their parents
are_plain : (vs : List Version) → ArePlain (as_entities vs)
are_plain [] = tt
are_plain (v ∷ vs) = (refl, are_plain vs)

module _ (s : Entities) (old : world.Entities) (shows : Shows (held_at s) old) where
  module _ (es : List EntityData) (vs : List Version) (same : es ≡ as_entities vs) (r : Result Entities EntitiesError) where
    pub puts : PutsAreTheWorlds → Leaves (put (held_at s) es) r → IsPut old vs r
    puts law left = law (held_at s) old vs r shows (subst (λ xs. Leaves (put (held_at s) xs) r) same left)

    pub adds : AddsAreTheWorlds → IsClosed s → (IsClosed s → ArePlain es → Adds (held_at s) es r) → IsAdded old vs r
    adds law closed left =
        let added = left closed (subst ArePlain (sym same) (are_plain vs)) in
        law (held_at s) old vs r shows (subst (λ xs. Adds (held_at s) xs r) same added)

  pub removes : (uids : UidSet) (r : Result Entities EntitiesError) → RemovesAreTheWorlds → Leaves (remove (held_at s) uids) r → IsRemoved old uids r
  removes uids r law left = law (held_at s) old uids r shows left

-- ---- refusals

pub put_refused : (old : world.Entities) (vs : List Version) (e : EntitiesError) → IsPut old vs (Err e) → PutsVersions old vs (Err (refusal_of e))
put_refused old vs (Duplicate e) h = h
put_refused old vs (TransitiveClosureError e) h = h
put_refused old vs (Memory e) h = tt

pub add_refused : (old : world.Entities) (vs : List Version) (e : EntitiesError) → IsAdded old vs (Err e) → AddsVersions old vs (Err (refusal_of e))
add_refused old vs (Duplicate e) h = (h.0, h.1, h.3)
add_refused old vs (TransitiveClosureError e) h = h
add_refused old vs (Memory e) h = tt

pub remove_refused : (old : world.Entities) (uids : UidSet) (e : EntitiesError) → IsMemory e → RemovesUids old uids (Err (refusal_of e))
remove_refused old uids (Duplicate e) h = h
remove_refused old uids (TransitiveClosureError e) h = h
remove_refused old uids (Memory e) h = tt
