-- A store of entities, and what its edits leave.
use Rattle.std.specs.Prelude.{◌≡◌, ◌↔◌, ⊤, Bool, true, false, Option, None, Some, IsTrue, List, Result, Ok, Err}
use Rattle.std.specs.FinSet as set
use Rattle.std.specs.BTreeMap.{values}
use Rattle.cedar_language.specs.Uid.{Uid}
use Rattle.cedar_language.specs.Tree.{Unknown, EntityType}
use Rattle.cedar_literals.specs.Escapes.{uid_text}
use Rattle.cedar_trees.specs.Bare.{bare}
use Rattle.cedar_entities.specs.Data.{EntityData, ancestors_of}
use Rattle.cedar_entities.specs.Held.{Held, held_of, IsAncestor}
use Rattle.cedar_entities.specs.Edits.{add, CanAdd, IsMisfit}
use Rattle.cedar_entities.specs.Kept.{Lookup, in_map, held_in, KeepsAncestors, IsSameAt, added_to, AreVersions, IsOtherVersion}
use Rattle.cedar_entities.specs.Refusals.{IsCycle}
use Rattle.cedar_entities.specs.Modes.{IsClosedAs, IsRefusedAs, IsClosureRefusal}
use Rattle.cedar_entities.specs.declared.closing.TCComputation.{TCComputation}
use Rattle.cedar_entities.specs.declared.errors.EntitiesError.{EntitiesError}
use Rattle.cedar_entities.specs.declared.errors.EntitiesError.TheVariants.{Duplicate, TransitiveClosureError, Memory}
use Rattle.cedar_entities.specs.declared.store.Mode.{Mode}
use Rattle.cedar_entities.specs.declared.store.Mode.TheVariants.{Concrete, Partial}
use Rattle.cedar_entities.specs.declared.store.Entities.{Entities}
use Rattle.cedar_entities.specs.declared.store.Dereference.{Dereference}
use Rattle.cedar_entities.specs.declared.store.Dereference.TheVariants.{NoSuchEntity, Residual, Data}

-- what stands at a uid, with the ancestors that are kept
abbrev pub found_in : Entities → Lookup
found_in s = in_map s.entities

-- what is held at a uid
abbrev pub held_at : Entities → Uid → Option Held
held_at s = held_in (found_in s)

-- the ancestors that are kept are those that the parents held reach, and no parents lead back
abbrev pub IsClosed : Entities → Type 0
IsClosed s = KeepsAncestors (found_in s)

-- the entities that stand there, in the order of their uids
abbrev pub entities_in : Entities → List EntityData
entities_in s = values s.entities

abbrev pub is_partial_mode : Mode → Bool
is_partial_mode Concrete = false
is_partial_mode Partial = true

-- whether what isn't held is unknown
abbrev pub is_partial_store : Entities → Bool
is_partial_store s = is_partial_mode s.mode

-- the same stands at each uid, and what isn't held is as unknown
pub record IsCopy (s copy : Entities) : Type 0 where
  pub found : (uid : Uid) → found_in copy uid ≡ found_in s uid
  pub partial : is_partial_store copy ≡ is_partial_store s

-- both hold entities of the same uids, each with the same attributes, tags and ancestors
abbrev pub AreSame : Entities → Entities → Type 0
AreSame s t = (uid : Uid) → IsSameAt (found_in s) (found_in t) uid

-- ---- look-ups

-- e is the entity that is held there; where the store is closed its ancestors are those that the parents held reach
abbrev pub IsHeld : Entities → Uid → EntityData → Type 0
IsHeld s uid e = (held_at s uid ≡ Some (held_of e)) × (e.uid ≡ uid)
    × (IsClosed s → (b : Uid) → IsTrue (set.contains (ancestors_of e) b) ↔ IsAncestor (held_at s) uid b)

-- The entity held, with the ancestors that the parents held reach; where none is held, none, or on a partial store
-- the unknown that is named as the uid is written.
abbrev pub IsDereference : Entities → Uid → Dereference EntityData → Type 0
IsDereference s uid NoSuchEntity = (held_at s uid ≡ None) × (is_partial_store s ≡ false)
IsDereference s uid (Residual e) = (held_at s uid ≡ None) × (is_partial_store s ≡ true) × (bare e ≡ Unknown (uid_text uid) (Some (EntityType uid.type_name)))
IsDereference s uid (Data e) = IsHeld s uid e.now

abbrev pub IsData : {T : Type 0} → Dereference T → Type 0
IsData NoSuchEntity = ⊥
IsData (Residual e) = ⊥
IsData (Data e) = ⊤

-- what is held there is v
abbrev pub Holds : {T : Type 0} → Dereference T → T → Type 0
Holds NoSuchEntity v = ⊥
Holds (Residual e) v = ⊥
Holds (Data e) v = e.now ≡ v

-- ---- edits, in each mode

abbrev pub Edits : TCComputation → Lookup → Result Entities EntitiesError → Type 0
Edits mode edited (Ok s) = IsClosedAs mode edited (found_in s)
Edits mode edited (Err e) = IsClosureRefusal mode edited e

-- entities were added, where each listed version is the one that stays
abbrev pub AddsAs : TCComputation → Lookup → List EntityData → Result Entities EntitiesError → Type 0
AddsAs mode found es (Ok s) = AreVersions (added_to found es) es × IsClosedAs mode (added_to found es) (found_in s)
AddsAs mode found es (Err (Duplicate e)) = IsOtherVersion (added_to found es) es e.euid
AddsAs mode found es (Err (TransitiveClosureError e)) = AreVersions (added_to found es) es × IsRefusedAs mode (added_to found es) e
AddsAs mode found es (Err (Memory e)) = ⊤

-- ---- edits whose ancestors are computed

-- a closed store that holds this, or a refusal because the parents would lead back to an entity
abbrev pub Leaves : (Uid → Option Held) → Result Entities EntitiesError → Type 0
Leaves held (Ok s) = ((uid : Uid) → held_at s uid ≡ held uid) × IsClosed s
Leaves held (Err (Duplicate e)) = ⊥
Leaves held (Err (TransitiveClosureError e)) = IsCycle (IsAncestor held) e
Leaves held (Err (Memory e)) = ⊤

-- the same, where the listed versions may be added, or a refusal for one that may not
abbrev pub Adds : (Uid → Option Held) → List EntityData → Result Entities EntitiesError → Type 0
Adds held es (Ok s) = CanAdd held es × ((uid : Uid) → held_at s uid ≡ add held es uid) × IsClosed s
Adds held es (Err (Duplicate e)) = IsMisfit held es e.euid
Adds held es (Err (TransitiveClosureError e)) = CanAdd held es × IsCycle (IsAncestor (add held es)) e
Adds held es (Err (Memory e)) = ⊤
