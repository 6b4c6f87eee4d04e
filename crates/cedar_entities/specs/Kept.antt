-- Entities by their uids, with the ancestors that are kept of them.
use Rattle.std.specs.Prelude.{◌≡◌, ◌↔◌, ◌||◌, Option, None, Some, IsTrue, List, cond, false}
use Rattle.std.specs.Option.{option_map, option_map_or, MatchOption, IsSome, IsSomeAnd}
use Rattle.std.specs.FinSet as set
use Rattle.std.specs.BTreeMap.{BTreeMap, get}
use Rattle.std.specs.List.{AllByRecursion, list_any}
use Rattle.cedar_language.specs.Uid.{Uid}
use Rattle.cedar_language.specs.Order.{same_uid, uid_cmp}
use Rattle.cedar_entities.specs.Data.{UidSet, EntityData, IsSameEntity, ancestors_of, without}
use Rattle.cedar_entities.specs.Held.{Held, held_of, parents_of, IsParent, IsAncestor}
use Rattle.cedar_entities.specs.Edits.{last_by, first_by, or_first, IsListed}

-- what stands at a uid
abbrev pub Lookup : Type 0
Lookup = Uid → Option EntityData

abbrev pub in_map : BTreeMap Uid EntityData → Lookup
in_map m uid = get uid_cmp m uid

-- what is held at a uid
abbrev pub held_in : Lookup → Uid → Option Held
held_in found uid = option_map held_of (found uid)

-- b is kept as an ancestor of a
abbrev pub IsKept : Lookup → Uid → Uid → Type 0
IsKept found a b = IsTrue (set.contains (option_map_or ancestors_of (found a) set.empty) b)

-- the ancestors that are kept are those that the parents held reach, and nothing reaches itself
pub record KeepsAncestors (found : Lookup) : Type 0 where
  pub ancestors : (a b : Uid) → IsKept found a b ↔ IsAncestor (held_in found) a b
  pub acyclic : (a : Uid) → ¬ (IsAncestor (held_in found) a a)

-- the ancestors that are kept of what stands at a uid
abbrev pub kept_at : Lookup → Uid → UidSet
kept_at found uid = option_map_or ancestors_of (found uid) set.empty

-- The same in facts that have one proof each: the ancestors that are kept are the parents and those kept of the parents,
-- and none is kept of itself.
abbrev pub IsWhole : Lookup → Type 0
IsWhole found =
    ((a b : Uid) → IsParent (held_in found) a b → IsKept found a b)
    × ((a b c : Uid) → IsParent (held_in found) a b → IsKept found b c → IsKept found a c)
    × ((a b : Uid) → IsKept found a b → IsTrue (set.contains (parents_of (held_in found a)) b || list_any (λ m. set.contains (kept_at found m) b) (set.items (parents_of (held_in found a)))))
    × ((a : Uid) → set.contains (kept_at found a) a ≡ false)

-- a uid that isn't edited, and keeps none of those that are as an ancestor
pub record IsUntouched (found : Lookup) (edited : List Uid) (uid : Uid) : Type 0 where
  pub stays : list_any (same_uid uid) edited ≡ false
  pub apart : list_any (set.contains (kept_at found uid)) edited ≡ false

-- all uids but these are untouched
abbrev pub Covers : Lookup → List Uid → List Uid → Type 0
Covers found edited uids = (uid : Uid) → list_any (same_uid uid) uids ≡ false → IsUntouched found edited uid

-- at all uids but these the ancestors that are kept are those that the parents held reach, and none reaches itself
pub record KeepsBeside (uids : List Uid) (found : Lookup) : Type 0 where
  pub ancestors : (a b : Uid) → list_any (same_uid a) uids ≡ false → IsKept found a b ↔ IsAncestor (held_in found) a b
  pub acyclic : (a : Uid) → list_any (same_uid a) uids ≡ false → ¬ (IsAncestor (held_in found) a a)

-- each entity stands under its own uid
abbrev pub IsByUid : Lookup → Type 0
IsByUid found = (uid : Uid) (e : EntityData) → found uid ≡ Some e → IsTrue (same_uid e.uid uid)

-- the same entity stands at a uid in both, or none
abbrev pub IsSameAt : Lookup → Lookup → Uid → Type 0
IsSameAt found others uid = MatchOption (found uid) (others uid ≡ None) (λ e. IsSomeAnd (others uid) (IsSameEntity e))

-- what stands in the first stands in the second
abbrev pub HoldsAllOf : Lookup → Lookup → Type 0
HoldsAllOf found others = (uid : Uid) → IsSome (found uid) → IsSameAt found others uid

-- where something stands in the second, something stands in the first
abbrev pub HoldsUidsOf : Lookup → Lookup → Type 0
HoldsUidsOf found others = (uid : Uid) → IsSome (others uid) → IsSome (found uid)

-- ---- edits of what is kept

abbrev pub same : EntityData → EntityData
same e = e

abbrev pub put_over : Lookup → List EntityData → Lookup
put_over found es uid = last_by same es uid (found uid)

abbrev pub added_to : Lookup → List EntityData → Lookup
added_to found es uid = or_first (found uid) (first_by same es uid)

abbrev pub removed_from : Lookup → UidSet → Lookup
removed_from found uids uid = cond (set.contains uids uid) None (option_map (without uids) (found uid))

-- a listed version is the one that stays: its uid, attributes, tags and ancestors are those
abbrev pub IsVersion : Lookup → EntityData → Type 0
IsVersion found e = IsSomeAnd (found e.uid) (λ kept. IsSameEntity kept e)

abbrev pub AreVersions : Lookup → List EntityData → Type 0
AreVersions found es = AllByRecursion (IsVersion found) es

-- a listed version of this uid isn't
abbrev pub IsOtherVersion : Lookup → List EntityData → Uid → Type 0
IsOtherVersion found es uid = (e : EntityData) × IsListed es e × (e.uid ≡ uid) × ¬ (IsVersion found e)
