-- Why an edit is refused.
use Rattle.std.specs.Prelude.{◌≡◌, ⊤, List}
use Rattle.cedar_language.specs.Uid.{Uid}
use Rattle.cedar_closure.specs.declared.errors.TcError.{TcError}
use Rattle.cedar_closure.specs.declared.errors.TcError.TheVariants as closure
use Rattle.cedar_entities.specs.Data.{EntityData}
use Rattle.cedar_entities.specs.Held.{IsAncestor}
use Rattle.cedar_entities.specs.Kept.{Lookup, held_in, added_to, AreVersions, IsOtherVersion}
use Rattle.cedar_entities.specs.declared.errors.EntitiesError.{EntitiesError}
use Rattle.cedar_entities.specs.declared.errors.EntitiesError.TheVariants.{Duplicate, TransitiveClosureError, Memory}

-- the refusal for what the closure refuses
abbrev pub from_closure : TcError Uid → EntitiesError
from_closure (closure.MissingTcEdge e) = TransitiveClosureError (closure.MissingTcEdge e)
from_closure (closure.HasCycle e) = TransitiveClosureError (closure.HasCycle e)
from_closure (closure.Memory e) = Memory e

-- a cycle of these edges, named by a uid on it
abbrev pub IsCycle : (Uid → Uid → Type 0) → TcError Uid → Type 0
IsCycle Leads (closure.MissingTcEdge e) = ⊥
IsCycle Leads (closure.HasCycle e) = Leads e.vertex_with_loop e.vertex_with_loop
IsCycle Leads (closure.Memory e) = ⊥

-- an edge that is missing, or one from a uid to itself
abbrev pub IsViolation : (Uid → Uid → Type 0) → TcError Uid → Type 0
IsViolation IsEdge (closure.MissingTcEdge e) = IsEdge e.child e.parent × IsEdge e.parent e.grandparent × ¬ (IsEdge e.child e.grandparent)
IsViolation IsEdge (closure.HasCycle e) = IsEdge e.vertex_with_loop e.vertex_with_loop
IsViolation IsEdge (closure.Memory e) = ⊥

-- a refusal of the entities that are added to these
abbrev pub IsAddRefusal : Lookup → List EntityData → EntitiesError → Type 0
IsAddRefusal found es (Duplicate e) = IsOtherVersion (added_to found es) es e.euid
IsAddRefusal found es (TransitiveClosureError e) = ⊥
IsAddRefusal found es (Memory e) = ⊤

-- one entity of this uid is refused
abbrev pub IsOneRefusal : Uid → Type 0 → EntitiesError → Type 0
IsOneRefusal uid Misfit (Duplicate e) = (e.euid ≡ uid) × Misfit
IsOneRefusal uid Misfit (TransitiveClosureError e) = ⊥
IsOneRefusal uid Misfit (Memory e) = ⊤

abbrev pub IsMemory : EntitiesError → Type 0
IsMemory (Duplicate e) = ⊥
IsMemory (TransitiveClosureError e) = ⊥
IsMemory (Memory e) = ⊤

-- a refusal of the entities that are added to these and then closed: a cycle comes where each fits
abbrev pub IsAdditionRefusal : Lookup → List EntityData → EntitiesError → Type 0
IsAdditionRefusal found es (Duplicate e) = IsOtherVersion (added_to found es) es e.euid
IsAdditionRefusal found es (TransitiveClosureError e) = AreVersions (added_to found es) es × IsCycle (IsAncestor (held_in (added_to found es))) e
IsAdditionRefusal found es (Memory e) = ⊤
