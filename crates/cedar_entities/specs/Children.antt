-- What is known of children. More may be known than is held: an edit then touches more than it must.
use Rattle.std.specs.Prelude.{Option, List, IsTrue}
use Rattle.std.specs.Option.{IfSome}
use Rattle.std.specs.FinSet as set
use Rattle.cedar_language.specs.Uid.{Uid}
use Rattle.cedar_language.specs.Order.{uid_cmp}
use Rattle.cedar_closure.specs.Sources.{has_source}
use Rattle.cedar_closure.specs.declared.sources.Sources.{Sources}
use Rattle.cedar_entities.specs.Data.{EntityData}
use Rattle.cedar_entities.specs.Edits.{IsListed}
use Rattle.cedar_entities.specs.Held.{IsParent}
use Rattle.cedar_entities.specs.Kept.{Lookup, held_in}

-- the entity is known as a child of each of its parents
abbrev pub KnowsParents : Sources Uid → EntityData → Type 0
KnowsParents index e = (b : Uid) → IsTrue (set.contains e.parents b) → IsTrue (has_source uid_cmp index b e.uid)

-- so is each of the entities
abbrev pub KnowsAll : Sources Uid → List EntityData → Type 0
KnowsAll index es = (e : EntityData) → IsListed es e → KnowsParents index e

-- what is held at each uid is known as a child of each of its parents
abbrev pub KnowsChildren : Lookup → Sources Uid → Type 0
KnowsChildren found index = (a b : Uid) → IsParent (held_in found) a b → IsTrue (has_source uid_cmp index b a)

-- the same, where children are known
abbrev pub KnowsIfAny : Lookup → Option (Sources Uid) → Type 0
KnowsIfAny found index = IfSome index (KnowsChildren found)

-- what the first knows the second knows
abbrev pub KeepsKnown : Sources Uid → Sources Uid → Type 0
KeepsKnown old new = (t s : Uid) → IsTrue (has_source uid_cmp old t s) → IsTrue (has_source uid_cmp new t s)
