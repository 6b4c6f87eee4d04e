-- Edits of one entity that only add edges to parents.
use Rattle.std.specs.Prelude.{◌≡◌, ◌↔◌, ◌⊎◌, ◌&&◌, not, Bool, false, IsTrue, List, [], ◌∷◌, Option}
use Rattle.std.specs.Option.{IsSome, is_some}
use Rattle.std.specs.FinSet as set
use Rattle.std.specs.List.{list_any}
use Rattle.cedar_language.specs.Uid.{Uid}
use Rattle.cedar_language.specs.Order.{same_uid}
use Rattle.cedar_entities.specs.Beside.{among}
use Rattle.cedar_entities.specs.Data.{UidSet, EntityData}
use Rattle.cedar_entities.specs.Held.{IsParent, IsAncestor}
use Rattle.cedar_entities.specs.Kept.{Lookup, held_in, kept_at, IsKept, IsByUid, put_over}
use Rattle.cedar_entities.specs.declared.gaining.Gain.{Gain}

-- what stands at each uid once the entity is put
abbrev pub put_one : Lookup → EntityData → Lookup
put_one found e = put_over found (e ∷ [])

-- the entity keeps each parent of what is held at its uid
abbrev pub KeepsParents : Lookup → EntityData → Type 0
KeepsParents found e = (q : Uid) → IsParent (held_in found) e.uid q → IsTrue (set.contains e.parents q)

-- it is one entity, which keeps them
pub record GainsEdges (found : Lookup) (es : List EntityData) : Type 0 where
  pub one : EntityData
  pub are : es ≡ one ∷ []
  pub keeps : KeepsParents found one

-- nothing stands at the entity's uid
abbrev pub is_new_in : Lookup → EntityData → Bool
is_new_in found e = not (is_some (found e.uid))

-- these are the parents, and the ancestors kept of them
pub record IsThrough (found : Lookup) (parents above : UidSet) : Type 0 where
  pub parents_in : (q : Uid) → IsTrue (set.contains parents q) → IsTrue (set.contains above q)
  pub kept_in : (p q : Uid) → IsTrue (set.contains parents p) → IsKept found p q → IsTrue (set.contains above q)
  pub only : (q : Uid) → IsTrue (set.contains above q) → IsTrue (set.contains parents q) ⊎ ((p : Uid) × IsTrue (set.contains parents p) × IsKept found p q)

-- the entity keeps its parents; what it reaches once it is put, which isn't itself, and what of this wasn't kept
pub record IsGain (found : Lookup) (e : EntityData) (gain : Gain) : Type 0 where
  pub keeps : KeepsParents found e
  pub above : (q : Uid) → IsTrue (set.contains gain.above q) ↔ IsAncestor (held_in (put_one found e)) e.uid q
  pub acyclic : set.contains gain.above e.uid ≡ false
  pub more : (q : Uid) → set.contains gain.more q ≡ (set.contains gain.above q && not (set.contains (kept_at found e.uid) q))

-- where there is something to gain, each that has the uid as an ancestor is listed
abbrev pub ListsBelow : Lookup → Uid → UidSet → List Uid → Type 0
ListsBelow found from more uids = (a b : Uid) → IsKept found a from → IsTrue (set.contains more b) → IsTrue (among uids a)

-- at some uids, those that have the one as an ancestor have these too; nothing else is kept than before
pub record Gains (old new : Lookup) (from : Uid) (more : UidSet) (at : Uid → Bool) : Type 0 where
  pub kept : (a b : Uid) → IsKept old a b → IsKept new a b
  pub only : (a b : Uid) → IsKept new a b → IsKept old a b ⊎ (IsKept old a from × IsTrue (set.contains more b))
  pub whole : (a b : Uid) → IsTrue (at a) → IsKept old a from → IsTrue (set.contains more b) → IsKept new a b

-- ---- what was added

-- at a uid, and which ancestors
abbrev pub Added : Type 0
Added = Uid × UidSet

abbrev pub is_added : List Added → Uid → Uid → Bool
is_added all a b = list_any (λ x. same_uid a x.0 && set.contains x.1 b) all

-- only these ancestors were added, none of which was kept before
pub record HasGained (old new : Lookup) (all : List Added) : Type 0 where
  pub held : (uid : Uid) → held_in new uid ≡ held_in old uid
  pub kept : (a b : Uid) → IsKept old a b → IsKept new a b
  pub only : (a b : Uid) → IsKept new a b → IsKept old a b ⊎ IsTrue (is_added all a b)
  pub apart : (a b : Uid) → IsTrue (is_added all a b) → set.contains (kept_at old a) b ≡ false
  pub there : (uid : Uid) → IsSome (old uid) → IsSome (new uid)
  pub by_uid : IsByUid old → IsByUid new

-- the entity without these among the ancestors kept beside its parents
abbrev pub losing : UidSet → EntityData → EntityData
losing uids e = record e { indirect = set.difference e.indirect uids }
