-- What a store holds of entities: attributes, tags and direct parents. Who its ancestors are is said by paths.
use Rattle.std.specs.Prelude.{Option, None, Some, IsTrue}
use Rattle.std.specs.FinSet as set
use Rattle.cedar_language.specs.Uid.{Uid}
use Rattle.cedar_language.specs.Facts.{Reaches}
use Rattle.cedar_entities.specs.Attributes.{AttributeMap}
use Rattle.cedar_entities.specs.Data.{UidSet, EntityData}

pub record Held : Type 0 where
  pub attributes : AttributeMap
  pub tags : AttributeMap
  -- the direct parents alone
  pub parents : UidSet

abbrev pub held_of : EntityData → Held
held_of e = record { attributes = e.attributes; tags = e.tags; parents = e.parents }

abbrev pub parents_of : Option Held → UidSet
parents_of None = set.empty
parents_of (Some h) = h.parents

module _ (held : Uid → Option Held) where
  -- b is a direct parent of a
  abbrev pub IsParent : Uid → Uid → Type 0
  IsParent a b = IsTrue (set.contains (parents_of (held a)) b)

  -- one or more parent edges lead from a to b; a parent need not be held
  abbrev pub IsAncestor : Uid → Uid → Type 0
  IsAncestor a b = Reaches IsParent a b
