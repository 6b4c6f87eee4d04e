-- Edits whose ancestors are computed, said by what is held alone.
use Rattle.std.proofs.Common.{◌≡◌, ◌↔◌, inl, inr, Bool, true, false, not, ◌&&◌, true≢false, cond, List, [], ◌∷◌, Option, None, Some, option_map, MatchOption, refl, sym, ap, ◌∙◌, IfSome, IfErr, Result, Ok, Err}
use Rattle.std.specs.FinSet as set
use Rattle.std.specs.List.{AllByRecursion}
use Rattle.std.specs.Option.{option_map_or, option_copied, IfNone, IsSomeAnd}
use Rattle.std.specs.Borrow.{Bor}
use Rattle.cedar_language.specs.Uid.{Uid}
use Rattle.cedar_language.specs.Order.{same_uid, uid_cmp}
use Rattle.cedar_literals.specs.Laws.{uid_cmp_total}
use Rattle.cedar_closure.specs.declared.errors.TcError.{TcError}
use Rattle.cedar_closure.specs.declared.errors.TcError.TheVariants as closure
use Rattle.cedar_entities.specs.Data.{EntityData, UidSet, IsSameEntity, ancestors_of}
use Rattle.cedar_entities.proofs.UidLemmas.{union-empty, uid_is, same_uids}
use Rattle.cedar_entities.specs.Held.{Held, held_of, parents_of, IsAncestor}
use Rattle.cedar_entities.specs.Edits.{first_by, or_first, add, without_parents, FitsIn, IsAsHeld, ArePlain, IsListed}
use Rattle.cedar_entities.specs.Kept.{Lookup, held_in, KeepsAncestors, IsByUid, same, added_to, removed_from, IsVersion, AreVersions}
use Rattle.cedar_entities.specs.Refusals.{IsCycle, IsAddRefusal, IsMemory}
use Rattle.cedar_entities.specs.declared.closing.TCComputation.{TCComputation}
use Rattle.cedar_entities.specs.Store.{found_in, held_at, Edits, AddsAs, Leaves, Adds, IsHeld}
use Rattle.cedar_entities.specs.declared.closing.TCComputation.TheVariants.{ComputeNow}
use Rattle.cedar_entities.specs.declared.errors.EntitiesError.{EntitiesError}
use Rattle.cedar_entities.specs.declared.errors.EntitiesError.TheVariants.{Duplicate, TransitiveClosureError, Memory}
use Rattle.cedar_entities.specs.declared.store.Entities.{Entities}
use Rattle.cedar_entities.proofs.Lookups.{held-added, held-first, held-removed, ancestors_same, reaches_along}
use Rattle.cedar_lemmas.proofs.Booleans.{and_first as both_true}

cycle_along : (P Q : Uid → Uid → Type 0) → ((a : Uid) → P a a → Q a a) → (e : TcError Uid) → IsCycle P e → IsCycle Q e
cycle_along P Q on (closure.MissingTcEdge e) h = h
cycle_along P Q on (closure.HasCycle e) h = on e.vertex_with_loop h
cycle_along P Q on (closure.Memory e) h = h

pub leaves : (edited : Lookup) (held : Uid → Option Held) → ((uid : Uid) → held_in edited uid ≡ held uid) → (r : Result Entities EntitiesError) → Edits ComputeNow edited r → Leaves held r
leaves edited held is (Ok s) h = (λ uid. h.held uid ∙ is uid, h.keeps)
leaves edited held is (Err (Duplicate e)) h = h
leaves edited held is (Err (TransitiveClosureError e)) h = cycle_along (IsAncestor (held_in edited)) (IsAncestor held) (λ a r. ancestors_same (held_in edited) held is r) e h
leaves edited held is (Err (Memory e)) h = h

-- ---- a removal leaves no cycle where there was none

no_new_parent : (gone : UidSet) (x : Bool) (o : Option Held) (b : Uid) → set.contains (parents_of (cond x None (option_map (without_parents gone) o))) b ≡ true → set.contains (parents_of o) b ≡ true
no_new_parent gone true o b h = absurd (true≢false (sym h ∙ set.contains-empty uid_cmp b))
no_new_parent gone false None b h = h
no_new_parent gone false (Some k) b h = both_true (set.contains k.parents b) (not (set.contains gone b)) (sym (set.contains-difference uid_cmp_total k.parents gone b) ∙ h)

pub only_memory : (found : Lookup) (gone : UidSet) → ((a : Uid) → ¬ (IsAncestor (held_in found) a a)) → (r : Result Entities EntitiesError) → Edits ComputeNow (removed_from found gone) r → IfErr r IsMemory
only_memory found gone acyclic (Ok s) h = tt
only_memory found gone acyclic (Err (Duplicate e)) h = h
only_memory found gone acyclic (Err (TransitiveClosureError (closure.MissingTcEdge e))) h = h
only_memory found gone acyclic (Err (TransitiveClosureError (closure.HasCycle e))) h =
    acyclic e.vertex_with_loop (reaches_along (λ a b p. no_new_parent gone (set.contains gone a) (held_in found a) b (ap (λ o. set.contains (parents_of o) b) (sym (held-removed found gone a)) ∙ p)) h)
only_memory found gone acyclic (Err (TransitiveClosureError (closure.Memory e))) h = h
only_memory found gone acyclic (Err (Memory e)) h = h

-- what adding is refused for, and what closing what was added answers
pub adding_refused : (mode : TCComputation) (found : Lookup) (es : List EntityData) (e : EntitiesError) → IsAddRefusal found es e → AddsAs mode found es (Err e)
adding_refused mode found es (Duplicate e) h = h
adding_refused mode found es (TransitiveClosureError e) h = absurd h
adding_refused mode found es (Memory e) h = h

pub added_as : (mode : TCComputation) (found : Lookup) (es : List EntityData) → AreVersions (added_to found es) es → (r : Result Entities EntitiesError) → Edits mode (added_to found es) r → AddsAs mode found es r
added_as mode found es versions (Ok s) h = (versions, h)
added_as mode found es versions (Err (Duplicate e)) h = absurd h
added_as mode found es versions (Err (TransitiveClosureError e)) h = (versions, h)
added_as mode found es versions (Err (Memory e)) h = h

-- ---- listed versions without ancestors of their own

plain_ancestors : (e : EntityData) → e.indirect ≡ set.empty → ancestors_of e ≡ e.parents
plain_ancestors e h = ap (set.union e.parents) h ∙ union-empty e.parents

-- the first version of a uid is plain, and is of that uid
pub record IsFirst (uid : Uid) (k : EntityData) : Type 0 where
  pub plain : k.indirect ≡ set.empty
  pub is_of : same_uid k.uid uid ≡ true

first_is : (es : List EntityData) (uid : Uid) → ArePlain es → IfSome (first_by same es uid) (IsFirst uid)
first_is [] uid h = tt
first_is (e ∷ es) uid h =
    elim (same_uid e.uid uid) as (λ b. same_uid e.uid uid ≡ b → IfSome (cond b (Some e) (first_by same es uid)) (IsFirst uid)) [
      | true ↦ λ is. record { plain = h.0; is_of = is }
      | false ↦ λ _. first_is es uid h.1
    ] refl

some_inj : (h k : Held) → ◌≡◌ {A = Option Held} (Some h) (Some k) → h ≡ k
some_inj h k e = cc

to_held : (k e : EntityData) → k.indirect ≡ set.empty → e.indirect ≡ set.empty → IsSameEntity k e → held_of k ≡ held_of e
to_held k e p q v =
    let attributes = sym v.attributes in
    let tags = sym v.tags in
    let parents = sym (plain_ancestors k p) ∙ sym v.ancestors ∙ plain_ancestors e q in
    λ i. record { attributes = attributes i; tags = tags i; parents = parents i }

from_held : (k e : EntityData) → k.indirect ≡ set.empty → e.indirect ≡ set.empty → k.uid ≡ e.uid → held_of k ≡ held_of e → IsSameEntity k e
from_held k e p q u h = record {
  uid = sym u;
  attributes = sym (ap (λ (x : Held). x.attributes) h);
  tags = sym (ap (λ (x : Held). x.tags) h);
  ancestors = plain_ancestors e q ∙ sym (ap (λ (x : Held). x.parents) h) ∙ sym (plain_ancestors k p);
}

module _ (found : Lookup) (es : List EntityData) (keeps : KeepsAncestors found) (by : IsByUid found) (plain : ArePlain es) where
  held_fits : (e s : EntityData) → e.indirect ≡ set.empty → found e.uid ≡ Some s → IsSameEntity s e ↔ IsAsHeld (held_in found) (held_of s) e
  held_fits e s none is =
      let kept : option_map_or ancestors_of (found e.uid) set.empty ≡ ancestors_of s = ap (λ o. option_map_or ancestors_of o set.empty) is in (
        λ v. record {
          attributes = v.attributes;
          tags = v.tags;
          parents = λ b.
              let same_test : set.contains e.parents b ≡ set.contains (option_map_or ancestors_of (found e.uid) set.empty) b = ap (λ x. set.contains x b) (sym (plain_ancestors e none) ∙ v.ancestors ∙ sym kept) in
              (λ h. (keeps.ancestors e.uid b).0 (sym same_test ∙ h), λ r. same_test ∙ (keeps.ancestors e.uid b).1 r);
        },
        λ k. record {
          uid = sym (uid_is s.uid e.uid (by e.uid s is));
          attributes = k.attributes;
          tags = k.tags;
          ancestors = plain_ancestors e none ∙ same_uids e.parents (ancestors_of s) (λ b.
              tests (set.contains e.parents b) (set.contains (ancestors_of s) b)
              (λ h. ap (λ x. set.contains x b) (sym kept) ∙ (keeps.ancestors e.uid b).1 ((k.parents b).0 h))
              (λ h. (k.parents b).1 ((keeps.ancestors e.uid b).0 (ap (λ x. set.contains x b) kept ∙ h))));
        },
      )
    where
      tests : (a b : Bool) → (a ≡ true → b ≡ true) → (b ≡ true → a ≡ true) → a ≡ b
      tests true b f g = sym (f refl)
      tests false true f g = g refl
      tests false false f g = refl

  new_fits : (e : EntityData) (o : Option EntityData) → e.indirect ≡ set.empty → IfSome o (IsFirst e.uid) → o ≡ first_by same es e.uid → IsSomeAnd o (λ k. IsSameEntity k e) ↔ (first_by held_of es e.uid ≡ Some (held_of e))
  new_fits e None none first is =
      (λ v. absurd v, λ h. let never : ◌≡◌ {A = Option Held} None (Some (held_of e)) = ap (option_map held_of) is ∙ held-first es e.uid ∙ h in cc)
  new_fits e (Some k) none first is = (
    λ v. sym (held-first es e.uid) ∙ ap (option_map held_of) (sym is) ∙ ap Some (to_held k e first.plain none v),
    λ h. from_held k e first.plain none (uid_is k.uid e.uid first.is_of) (some_inj _ _ (ap (option_map held_of) is ∙ held-first es e.uid ∙ h)),
  )

  fits_at : (e : EntityData) → e.indirect ≡ set.empty → (o : Option EntityData) → found e.uid ≡ o → IsSomeAnd (or_first o (first_by same es e.uid)) (λ k. IsSameEntity k e) ↔ MatchOption (option_map held_of o) (first_by held_of es e.uid ≡ Some (held_of e)) (λ h. IsAsHeld (held_in found) h e)
  fits_at e none None is = new_fits e (first_by same es e.uid) none (first_is es e.uid plain) refl
  fits_at e none (Some s) is = held_fits e s none is

  -- a listed version is the one that stays where it may be added
  fits : (e : EntityData) → e.indirect ≡ set.empty → IsVersion (added_to found es) e ↔ FitsIn (held_in found) es e
  fits e none = fits_at e none (found e.uid) refl

  all_fit : (fs : List EntityData) → ArePlain fs → AreVersions (added_to found es) fs → AllByRecursion (FitsIn (held_in found) es) fs
  all_fit [] p v = tt
  all_fit (f ∷ fs) p v = ((fits f p.0).0 v.0, all_fit fs p.1 v.1)

  plain_listed : (fs : List EntityData) (e : EntityData) → ArePlain fs → IsListed fs e → e.indirect ≡ set.empty
  plain_listed [] e p h = absurd h
  plain_listed (f ∷ fs) e p (inl h) = ap (λ (x : EntityData). x.indirect) h ∙ p.0
  plain_listed (f ∷ fs) e p (inr h) = plain_listed fs e p.1 h

  -- what is added is said by what is held
  pub adds : (r : Result Entities EntitiesError) → AddsAs ComputeNow found es r → Adds (held_in found) es r
  adds (Ok s) h = (all_fit es plain h.0, λ uid. h.1.held uid ∙ held-added found es uid, h.1.keeps)
  adds (Err (Duplicate e)) h = (h.0, h.1, h.2, λ f. h.3 ((fits h.0 (plain_listed es h.0 plain h.1)).1 f))
  adds (Err (TransitiveClosureError e)) h =
      (all_fit es plain h.0, cycle_along (IsAncestor (held_in (added_to found es))) (IsAncestor (add (held_in found) es)) (λ a r. ancestors_same (held_in (added_to found es)) (add (held_in found) es) (held-added found es) r) e h.1)
  adds (Err (Memory e)) h = h

-- the entity that is found is the one held, and its ancestors are paths
pub is_held : (s : Entities) (uid : Uid) (e : EntityData) → Some e ≡ found_in s uid → IsByUid (found_in s) → IsHeld s uid e
is_held s uid e is by = (
  ap (option_map held_of) (sym is),
  uid_is e.uid uid (by uid e (sym is)),
  λ closed b.
      let kept : option_map_or ancestors_of (found_in s uid) set.empty ≡ ancestors_of e = ap (λ o. option_map_or ancestors_of o set.empty) (sym is) in
      (λ h. (closed.ancestors uid b).0 (ap (λ x. set.contains x b) kept ∙ h), λ r. ap (λ x. set.contains x b) (sym kept) ∙ (closed.ancestors uid b).1 r),
)

-- a look-up finds it where one is held
pub if_held : (s : Entities) (uid : Uid) (o : Option (Bor EntityData)) → option_copied o ≡ found_in s uid → IsByUid (found_in s) → IfSome o (λ e. IsHeld s uid e.now)
if_held s uid None is by = tt
if_held s uid (Some e) is by = is_held s uid e.now is by

-- and else none is held
pub if_none : (s : Entities) (uid : Uid) (o : Option (Bor EntityData)) → option_copied o ≡ found_in s uid → IfNone o (held_at s uid ≡ None)
if_none s uid None is = ap (option_map held_of) (sym is)
if_none s uid (Some e) is = tt
