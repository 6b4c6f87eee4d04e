-- What edits of a store leave, against the world's edits. Want of memory says nothing.
use Rattle.std.specs.Prelude.{◌≡◌, ⊤, Option, Result, Ok, Err, List}
use Rattle.cedar_language.specs.Uid.{Uid}
use Rattle.cedar_world.specs.Orders.{UidSet}
use Rattle.cedar_world.specs.World as world
use Rattle.cedar_world.specs.World.{IsCyclic}
use Rattle.cedar_world.specs.EntityEdits as world_edits
use Rattle.cedar_world.specs.EntityEdits.{Version, IsListed, FitsIn, CanAdd}
use Rattle.cedar_entities.specs.Held.{Held}
use Rattle.cedar_entities.specs.Edits.{put, remove}
use Rattle.cedar_entities.specs.Store as store
use Rattle.cedar_entities.specs.Store.{held_at, Leaves}
use Rattle.cedar_entities.specs.declared.errors.EntitiesError.{EntitiesError}
use Rattle.cedar_entities.specs.declared.errors.EntitiesError.TheVariants.{Duplicate, TransitiveClosureError, Memory}
use Rattle.cedar_entities.specs.declared.store.Entities.{Entities}
use Rattle.cedar_held.specs.Shown.{Shows, as_entities}

-- the world takes the edit, and the store shows what it leaves
pub record IsTaken (Takes : world.Entities → Type 0) (left : world.Entities) (s : Entities) : Type 0 where
  pub shows : Shows (held_at s) left
  pub takes : Takes left

-- ---- put

abbrev pub IsPut : world.Entities → List Version → Result Entities EntitiesError → Type 0
IsPut old vs (Ok s) = IsTaken (world_edits.Puts old vs) (world_edits.put old vs) s
IsPut old vs (Err (Duplicate e)) = ⊥
IsPut old vs (Err (TransitiveClosureError e)) = IsCyclic (world_edits.put old vs)
IsPut old vs (Err (Memory e)) = ⊤

abbrev pub PutsAreTheWorlds : Type 0
PutsAreTheWorlds = (held : Uid → Option Held) (old : world.Entities) (vs : List Version) (result : Result Entities EntitiesError) →
    Shows held old → Leaves (put held (as_entities vs)) result → IsPut old vs result

-- ---- add

-- a listed version of this uid is not one that the world takes
abbrev pub IsMisfit : world.Entities → List Version → Uid → Type 0
IsMisfit old vs uid = (v : Version) × IsListed v vs × (v.uid ≡ uid) × ¬ (FitsIn old vs v)

abbrev pub IsAdded : world.Entities → List Version → Result Entities EntitiesError → Type 0
IsAdded old vs (Ok s) = IsTaken (world_edits.Adds old vs) (world_edits.add old vs) s
IsAdded old vs (Err (Duplicate e)) = IsMisfit old vs e.euid
IsAdded old vs (Err (TransitiveClosureError e)) = CanAdd old vs × IsCyclic (world_edits.add old vs)
IsAdded old vs (Err (Memory e)) = ⊤

abbrev pub AddsAreTheWorlds : Type 0
AddsAreTheWorlds = (held : Uid → Option Held) (old : world.Entities) (vs : List Version) (result : Result Entities EntitiesError) →
    Shows held old → store.Adds held (as_entities vs) result → IsAdded old vs result

-- ---- remove

abbrev pub IsRemoved : world.Entities → UidSet → Result Entities EntitiesError → Type 0
IsRemoved old uids (Ok s) = IsTaken (world_edits.Removes old uids) (world_edits.remove old uids) s
IsRemoved old uids (Err (Duplicate e)) = ⊥
IsRemoved old uids (Err (TransitiveClosureError e)) = IsCyclic (world_edits.remove old uids)
IsRemoved old uids (Err (Memory e)) = ⊤

abbrev pub RemovesAreTheWorlds : Type 0
RemovesAreTheWorlds = (held : Uid → Option Held) (old : world.Entities) (uids : UidSet) (result : Result Entities EntitiesError) →
    Shows held old → Leaves (remove held uids) result → IsRemoved old uids result
