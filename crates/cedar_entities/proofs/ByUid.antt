-- Edits keep each entity under its own uid.
use Rattle.std.proofs.Common.{◌≡◌, Bool, true, false, cond, List, [], ◌∷◌, Option, None, Some, option_map, refl, sym, ap, ◌∙◌, IsTrue, IfSome}
use Rattle.std.specs.FinSet as set
use Rattle.cedar_language.specs.Uid.{Uid}
use Rattle.cedar_language.specs.Order.{same_uid}
use Rattle.cedar_entities.specs.Data.{UidSet, EntityData, without}
use Rattle.cedar_entities.specs.Edits.{last_by, first_by, or_first}
use Rattle.cedar_entities.specs.Kept.{Lookup, IsByUid, same, put_over, added_to, removed_from}

-- what stands at this uid is of it
abbrev pub IsOf : Uid → EntityData → Type 0
IsOf uid e = IsTrue (same_uid e.uid uid)

all_of : (found : Lookup) → IsByUid found → (uid : Uid) (o : Option EntityData) → found uid ≡ o → IfSome o (IsOf uid)
all_of found by uid None is = tt
all_of found by uid (Some e) is = by uid e is

from_all : (found : Lookup) → ((uid : Uid) → IfSome (found uid) (IsOf uid)) → IsByUid found
from_all found all uid e is = at (found uid) (all uid) is
  where
    at : (o : Option EntityData) → IfSome o (IsOf uid) → o ≡ Some e → IsOf uid e
    at None h p = let never : ◌≡◌ {A = Option EntityData} None (Some e) = p in cc
    at (Some x) h p = ap (λ (y : EntityData). same_uid y.uid uid) (sym (inj p)) ∙ h
      where
        inj : ◌≡◌ {A = Option EntityData} (Some x) (Some e) → x ≡ e
        inj q = cc

last_of : (es : List EntityData) (uid : Uid) (o : Option EntityData) → IfSome o (IsOf uid) → IfSome (last_by same es uid o) (IsOf uid)
last_of [] uid o h = h
last_of (e ∷ es) uid o h = last_of es uid (cond (same_uid e.uid uid) (Some e) o) (by_test (same_uid e.uid uid) refl)
  where
    by_test : (b : Bool) → same_uid e.uid uid ≡ b → IfSome (cond b (Some e) o) (IsOf uid)
    by_test true t = t
    by_test false t = h

first_is : (es : List EntityData) (uid : Uid) → IfSome (first_by same es uid) (IsOf uid)
first_is [] uid = tt
first_is (e ∷ es) uid = by_test (same_uid e.uid uid) refl (first_is es uid)
  where
    by_test : (b : Bool) → same_uid e.uid uid ≡ b → IfSome (first_by same es uid) (IsOf uid) → IfSome (cond b (Some e) (first_by same es uid)) (IsOf uid)
    by_test true t rest = t
    by_test false t rest = rest

either_of : (uid : Uid) (o p : Option EntityData) → IfSome o (IsOf uid) → IfSome p (IsOf uid) → IfSome (or_first o p) (IsOf uid)
either_of uid None p h k = k
either_of uid (Some e) p h k = h

cut_of : (uid : Uid) (uids : UidSet) (b : Bool) (o : Option EntityData) → IfSome o (IsOf uid) → IfSome (cond b None (option_map (without uids) o)) (IsOf uid)
cut_of uid uids true o h = tt
cut_of uid uids false None h = tt
cut_of uid uids false (Some e) h = h

pub put_by_uid : (found : Lookup) (es : List EntityData) → IsByUid found → IsByUid (put_over found es)
put_by_uid found es by = from_all (put_over found es) (λ uid. last_of es uid (found uid) (all_of found by uid (found uid) refl))

pub added_by_uid : (found : Lookup) (es : List EntityData) → IsByUid found → IsByUid (added_to found es)
added_by_uid found es by = from_all (added_to found es) (λ uid. either_of uid (found uid) (first_by same es uid) (all_of found by uid (found uid) refl) (first_is es uid))

pub removed_by_uid : (found : Lookup) (uids : UidSet) → IsByUid found → IsByUid (removed_from found uids)
removed_by_uid found uids by = from_all (removed_from found uids) (λ uid. cut_of uid uids (set.contains uids uid) (found uid) (all_of found by uid (found uid) refl))

-- look-ups that answer alike
pub by_uid_along : (f g : Lookup) → ((uid : Uid) → g uid ≡ f uid) → IsByUid f → IsByUid g
by_uid_along f g is by uid e h = by uid e (sym (is uid) ∙ h)
