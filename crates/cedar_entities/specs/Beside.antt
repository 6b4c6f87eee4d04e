-- Edits of a map of entities that touch some uids alone.
use Rattle.std.specs.Prelude.{◌≡◌, ◌↔◌, Bool, false, List, Option}
use Rattle.std.specs.Option.{option_map, IsSome}
use Rattle.std.specs.List.{AllByRecursion, list_any}
use Rattle.cedar_language.specs.Uid.{Uid}
use Rattle.cedar_language.specs.Order.{same_uid}
use Rattle.cedar_entities.specs.Data.{UidSet, EntityData, without}
use Rattle.cedar_entities.specs.Kept.{Lookup, held_in, IsKept, IsByUid, Covers}

-- one of the listed uids
abbrev pub among : List Uid → Uid → Bool
among uids uid = list_any (same_uid uid) uids

-- one of the listed entities' uids
abbrev pub among_entities : List EntityData → Uid → Bool
among_entities es uid = list_any (λ e. same_uid uid e.uid) es

abbrev pub nowhere : Uid → Bool
nowhere uid = false

-- but at some uids the same is held, with the same ancestors kept; nothing is gone
pub record IsSameBeside (some : Uid → Bool) (old new : Lookup) : Type 0 where
  pub held : (uid : Uid) → some uid ≡ false → held_in new uid ≡ held_in old uid
  pub kept : (a b : Uid) → some a ≡ false → IsKept new a b ↔ IsKept old a b
  pub there : (uid : Uid) → IsSome (old uid) → IsSome (new uid)
  pub by_uid : IsByUid old → IsByUid new

-- all uids but these are untouched by an edit of the entities
abbrev pub CoversEntities : Lookup → List EntityData → List Uid → Type 0
CoversEntities found es uids = (edited : List Uid) × ((q : Uid) → among edited q ≡ among_entities es q) × Covers found edited uids

-- what stands at each uid, without these among its ancestors
abbrev pub cut_from : Lookup → UidSet → Lookup
cut_from found gone uid = option_map (without gone) (found uid)

-- ---- what stood there before an edit

abbrev pub Saved : Type 0
Saved = Uid × Option EntityData

-- what is saved stood there
abbrev pub AreSaved : Lookup → List Saved → Type 0
AreSaved found all = AllByRecursion (λ s. s.1 ≡ found s.0) all

abbrev pub among_saved : List Saved → Uid → Bool
among_saved all uid = list_any (λ s. same_uid uid s.0) all
