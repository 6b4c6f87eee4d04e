-- What edits in place say of the store that they leave.
use Rattle.std.proofs.Common.{◌≡◌, refl, sym, subst, List, Option, option_map, Result, Ok, Err, OnOk, OnErr, IfErr}
use Rattle.cedar_language.specs.Uid.{Uid}
use Rattle.cedar_closure.specs.declared.errors.TcError.TheVariants as closure
use Rattle.cedar_entities.specs.Data.{EntityData}
use Rattle.cedar_entities.specs.Held.{Held, held_of, IsAncestor}
use Rattle.cedar_entities.specs.Kept.{Lookup, held_in, added_to, AreVersions, KeepsAncestors, IsWhole}
use Rattle.cedar_entities.specs.Modes.{IsComputed, IsClosureRefusal}
use Rattle.cedar_entities.specs.Refusals.{IsMemory, IsAddRefusal, IsAdditionRefusal}
use Rattle.cedar_entities.specs.Beside.{nowhere, IsSameBeside}
use Rattle.cedar_entities.specs.InPlace.{IsLeft, left_by}
use Rattle.cedar_entities.specs.Store.{found_in, held_at, IsCopy, IsClosed, Leaves, AddsAs}
use Rattle.cedar_entities.specs.declared.closing.TCComputation.TheVariants.{ComputeNow}
use Rattle.cedar_entities.specs.declared.errors.EntitiesError.{EntitiesError}
use Rattle.cedar_entities.specs.declared.errors.EntitiesError.TheVariants.{Duplicate, TransitiveClosureError, Memory}
use Rattle.cedar_entities.specs.declared.store.Entities.{Entities}
use Rattle.cedar_entities.proofs.Lookups.{ancestors_same}
use Rattle.cedar_entities.proofs.Edited.{leaves}
use Rattle.cedar_entities.proofs.Whole.{whole_of_kept}

-- ---- a refused edit

pub keeps_same : (f g : Lookup) → IsSameBeside nowhere f g → KeepsAncestors f → KeepsAncestors g
keeps_same f g same keeps = record {
  ancestors = λ a b. (
    λ k. ancestors_same (held_in f) (held_in g) (λ uid. sym (same.held uid refl)) ((keeps.ancestors a b).0 ((same.kept a b refl).0 k)),
    λ r. (same.kept a b refl).1 ((keeps.ancestors a b).1 (ancestors_same (held_in g) (held_in f) (λ uid. same.held uid refl) r)),
  );
  acyclic = λ a r. keeps.acyclic a (ancestors_same (held_in g) (held_in f) (λ uid. same.held uid refl) r);
}

pub left_as : (s t : Entities) → IsSameBeside nowhere (found_in s) (found_in t) → IsLeft s t
left_as s t same = record { held = λ uid. same.held uid refl; closed = keeps_same (found_in s) (found_in t) same }

pub left_itself : (s : Entities) → IsLeft s s
left_itself s = record { held = λ uid. refl; closed = λ h. h }

-- the ancestors are whole, whether the edit was made or not
pub whole_either : {E : Type 0} (old edited new : Lookup) → KeepsAncestors old → (r : Result (Unit {0}) E) → OnOk r (IsComputed edited new) → OnErr r (IsSameBeside nowhere old new) → IsWhole new
whole_either old edited new keeps (Ok done) h k = whole_of_kept new h.keeps
whole_either old edited new keeps (Err e) h k = whole_of_kept new (keeps_same old new k keeps)

-- ---- edits

pub edit_leaves : (edited : Lookup) (held : Uid → Option Held) → ((uid : Uid) → held_in edited uid ≡ held uid) → (s : Entities) (r : Result (Unit {0}) EntitiesError) → OnOk r (IsComputed edited (found_in s)) → IfErr r (IsClosureRefusal ComputeNow edited) → Leaves held (left_by r s)
edit_leaves edited held is s (Ok done) h k = leaves edited held is (Ok s) h
edit_leaves edited held is s (Err e) h k = leaves edited held is (Err e) k

memory_closure : (edited : Lookup) (e : EntitiesError) → IsMemory e → IsClosureRefusal ComputeNow edited e
memory_closure edited (Duplicate e) h = absurd h
memory_closure edited (TransitiveClosureError e) h = absurd h
memory_closure edited (Memory e) h = tt

-- the same, where memory alone refuses it
pub removal_leaves : (edited : Lookup) (held : Uid → Option Held) → ((uid : Uid) → held_in edited uid ≡ held uid) → (s : Entities) (r : Result (Unit {0}) EntitiesError) → OnOk r (IsComputed edited (found_in s)) → IfErr r IsMemory → Leaves held (left_by r s)
removal_leaves edited held is s (Ok done) h k = leaves edited held is (Ok s) h
removal_leaves edited held is s (Err e) h k = leaves edited held is (Err e) (memory_closure edited e k)

addition_refused : (found : Lookup) (es : List EntityData) (e : EntitiesError) → IsAdditionRefusal found es e → AddsAs ComputeNow found es (Err e)
addition_refused found es (Duplicate e) h = h
addition_refused found es (TransitiveClosureError e) h = h
addition_refused found es (Memory e) h = h

pub addition_as : (found : Lookup) (es : List EntityData) (s : Entities) (r : Result (Unit {0}) EntitiesError) → OnOk r (IsComputed (added_to found es) (found_in s)) → OnOk r (AreVersions (added_to found es) es) → IfErr r (IsAdditionRefusal found es) → AddsAs ComputeNow found es (left_by r s)
addition_as found es s (Ok done) h v k = (v, h)
addition_as found es s (Err e) h v k = addition_refused found es e k

-- ---- refusals

-- a refusal by the closure of what was added
pub closing_refused : (found : Lookup) (es : List EntityData) → AreVersions (added_to found es) es → (r : Result (Unit {0}) EntitiesError) → IfErr r (IsClosureRefusal ComputeNow (added_to found es)) → IfErr r (IsAdditionRefusal found es)
closing_refused found es versions (Ok done) h = tt
closing_refused found es versions (Err (Duplicate e)) h = absurd h
closing_refused found es versions (Err (TransitiveClosureError e)) h = (versions, h)
closing_refused found es versions (Err (Memory e)) h = tt

-- a refusal of what is to be added
pub adding_refused : (found : Lookup) (es : List EntityData) (e : EntitiesError) → IsAddRefusal found es e → IsAdditionRefusal found es e
adding_refused found es (Duplicate e) h = h
adding_refused found es (TransitiveClosureError e) h = absurd h
adding_refused found es (Memory e) h = tt

-- without a cycle memory alone refuses
pub acyclic_refused : (f : Lookup) → ((a : Uid) → ¬ (IsAncestor (held_in f) a a)) → (r : Result (Unit {0}) EntitiesError) → IfErr r (IsClosureRefusal ComputeNow f) → IfErr r IsMemory
acyclic_refused f acyclic (Ok done) h = tt
acyclic_refused f acyclic (Err (Duplicate e)) h = absurd h
acyclic_refused f acyclic (Err (TransitiveClosureError (closure.MissingTcEdge e))) h = absurd h
acyclic_refused f acyclic (Err (TransitiveClosureError (closure.HasCycle e))) h = absurd (acyclic e.vertex_with_loop h)
acyclic_refused f acyclic (Err (TransitiveClosureError (closure.Memory e))) h = absurd h
acyclic_refused f acyclic (Err (Memory e)) h = tt

-- ---- copies

pub copy_found : (s copy : Entities) → IsCopy s copy → found_in copy ≡ found_in s
copy_found s copy is = λ i uid. is.found uid i

pub copy_held : (s copy : Entities) → IsCopy s copy → held_at copy ≡ held_at s
copy_held s copy is = λ i uid. option_map held_of (is.found uid i)

pub copy_keeps : (s copy : Entities) → IsCopy s copy → IsClosed s → IsClosed copy
copy_keeps s copy is closed =
    subst KeepsAncestors (sym (copy_found s copy is)) closed
