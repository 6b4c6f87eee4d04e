-- Stores that edits leave. Want of memory says nothing.
use Rattle.std.specs.Prelude.{⊤, Result, Ok, Err, List}
use Rattle.cedar_world.specs.Orders.{UidSet}
use Rattle.cedar_world.specs.World as world
use Rattle.cedar_world.specs.World.{IsCyclic}
use Rattle.cedar_world.specs.EntityEdits as world_edits
use Rattle.cedar_world.specs.EntityEdits.{Version, IsListed, FitsIn, CanAdd}
use Rattle.cedar_entities.specs.declared.store.Entities.{Entities}
use Rattle.cedar_held.specs.StoreWorlds.{IsTaken}
use Rattle.cedar_replies.specs.declared.refusal.Refusal.{Refusal}
use Rattle.cedar_replies.specs.declared.refusal.Refusal.TheVariants.{Duplicate, Cycle, Memory}

-- a listed version is none that may be added
abbrev pub SomeMisfit : world.Entities → List Version → Type 0
SomeMisfit old vs = (v : Version) × IsListed v vs × ¬ (FitsIn old vs v)

abbrev pub PutsVersions : world.Entities → List Version → Result Entities Refusal → Type 0
PutsVersions old vs (Ok s) = IsTaken (world_edits.Puts old vs) (world_edits.put old vs) s
PutsVersions old vs (Err Cycle) = IsCyclic (world_edits.put old vs)
PutsVersions old vs (Err Memory) = ⊤
PutsVersions old vs (Err r) = ⊥

abbrev pub AddsVersions : world.Entities → List Version → Result Entities Refusal → Type 0
AddsVersions old vs (Ok s) = IsTaken (world_edits.Adds old vs) (world_edits.add old vs) s
AddsVersions old vs (Err Duplicate) = SomeMisfit old vs
AddsVersions old vs (Err Cycle) = CanAdd old vs × IsCyclic (world_edits.add old vs)
AddsVersions old vs (Err Memory) = ⊤
AddsVersions old vs (Err r) = ⊥

abbrev pub RemovesUids : world.Entities → UidSet → Result Entities Refusal → Type 0
RemovesUids old uids (Ok s) = IsTaken (world_edits.Removes old uids) (world_edits.remove old uids) s
RemovesUids old uids (Err Memory) = ⊤
RemovesUids old uids (Err r) = ⊥
