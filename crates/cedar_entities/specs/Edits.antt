-- How what is held at each uid changes. An edit is said by what is held afterwards; no edit speaks of stored ancestors.
use Rattle.std.specs.Prelude.{◌≡◌, ◌↔◌, Option, None, Some, MatchOption, IsTrue, cond, ◌⊎◌, List, [], ◌∷◌}
use Rattle.std.specs.Option.{option_map}
use Rattle.std.specs.FinSet as set
use Rattle.std.specs.List.{AllByRecursion}
use Rattle.cedar_language.specs.Uid.{Uid}
use Rattle.cedar_language.specs.Order.{same_uid}
use Rattle.cedar_entities.specs.Data.{UidSet, EntityData}
use Rattle.cedar_entities.specs.Held.{Held, held_of, IsAncestor}

-- the entity is one of the list
abbrev pub IsListed : List EntityData → EntityData → Type 0
IsListed [] e = ⊥
IsListed (f ∷ fs) e = (e ≡ f) ⊎ IsListed fs e

-- what the last version of a uid in a list shows, and else o
abbrev pub last_by : {X : Type 0} → (EntityData → X) → List EntityData → Uid → Option X → Option X
last_by shows [] uid o = o
last_by shows (e ∷ es) uid o = last_by shows es uid (cond (same_uid e.uid uid) (Some (shows e)) o)

-- what the first version of a uid in a list shows
abbrev pub first_by : {X : Type 0} → (EntityData → X) → List EntityData → Uid → Option X
first_by shows [] uid = None
first_by shows (e ∷ es) uid = cond (same_uid e.uid uid) (Some (shows e)) (first_by shows es uid)

abbrev pub or_first : {X : Type 0} → Option X → Option X → Option X
or_first (Some x) o = Some x
or_first None o = o

-- put: of the versions of one uid the last stays
abbrev pub put : (Uid → Option Held) → List EntityData → Uid → Option Held
put held es uid = last_by held_of es uid (held uid)

-- add: what is held stays as it is, and of the versions of a new uid the first stays
abbrev pub add : (Uid → Option Held) → List EntityData → Uid → Option Held
add held es uid = or_first (held uid) (first_by held_of es uid)

abbrev pub without_parents : UidSet → Held → Held
without_parents uids h = record h { parents = set.difference h.parents uids }

-- remove: the uids go, with all edges from and to them
abbrev pub remove : (Uid → Option Held) → UidSet → Uid → Option Held
remove held uids uid = cond (set.contains uids uid) None (option_map (without_parents uids) (held uid))

-- ---- which versions may be added

-- A version of a held entity is that entity: its attributes and tags are equal, and its parents are all that is reached.
pub record IsAsHeld (held : Uid → Option Held) (h : Held) (e : EntityData) : Type 0 where
  pub attributes : e.attributes ≡ h.attributes
  pub tags : e.tags ≡ h.tags
  pub parents : (b : Uid) → IsTrue (set.contains e.parents b) ↔ IsAncestor held e.uid b

-- a listed version may be added: the one held, or of a new uid the one that is listed first
abbrev pub FitsIn : (Uid → Option Held) → List EntityData → EntityData → Type 0
FitsIn held es e = MatchOption (held e.uid) (first_by held_of es e.uid ≡ Some (held_of e)) (λ h. IsAsHeld held h e)

abbrev pub CanAdd : (Uid → Option Held) → List EntityData → Type 0
CanAdd held es = AllByRecursion (FitsIn held es) es

-- a listed version of this uid may not be added
abbrev pub IsMisfit : (Uid → Option Held) → List EntityData → Uid → Type 0
IsMisfit held es uid = (e : EntityData) × IsListed es e × (e.uid ≡ uid) × ¬ (FitsIn held es e)

-- no ancestors are kept beside the parents of the listed entities
abbrev pub ArePlain : List EntityData → Type 0
ArePlain es = AllByRecursion (λ e. e.indirect ≡ set.empty) es
