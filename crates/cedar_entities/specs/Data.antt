-- What an entity is.
use Rattle.std.specs.Prelude.{◌≡◌, List, refl}
use Rattle.std.specs.List.{IsDistinct}
use Rattle.std.specs.Set.{is_member}
use Rattle.std.specs.Coded.{Coded, code_by, coded×}
use Rattle.std.specs.FinMap as finite
use Rattle.std.specs.FinSet as set
use Rattle.std.specs.FinSet.{FinSet}
use Rattle.cedar_language.specs.Uid.{Uid}
use Rattle.cedar_language.specs.Order.{uid_cmp, same_uid}
use Rattle.cedar_language.specs.OrderLaws.{uid_code}
use Rattle.cedar_entities.specs.Attributes.{AttributeMap, attributes_code}

abbrev pub UidSet : Type 0
UidSet = FinSet uid_cmp

abbrev pub uids_code : Coded UidSet
uids_code = set.code uid_code

pub record EntityData : Type 0 where
  pub uid : Uid
  pub attributes : AttributeMap
  pub tags : AttributeMap
  -- the direct parents
  pub parents : UidSet
  -- ancestors that are kept beside them
  pub indirect : UidSet

abbrev pub data_code : Coded EntityData
data_code = code_by (Uid × (AttributeMap × (AttributeMap × (UidSet × UidSet)))) (coded× uid_code (coded× attributes_code (coded× attributes_code (coded× uids_code uids_code))))
    (λ e. (e.uid, (e.attributes, (e.tags, (e.parents, e.indirect))))) (λ p. record { uid = p.0; attributes = p.1.0; tags = p.1.1.0; parents = p.1.1.1.0; indirect = p.1.1.1.1 }) (λ _. refl)

-- the entity of this uid with nothing else
abbrev pub bare_entity : Uid → EntityData
bare_entity uid = record { uid = uid; attributes = finite.empty; tags = finite.empty; parents = set.empty; indirect = set.empty }

-- its parents, and the ancestors kept beside them
abbrev pub ancestors_of : EntityData → UidSet
ancestors_of e = set.union e.parents e.indirect

-- the entity without these ancestors
abbrev pub without : UidSet → EntityData → EntityData
without uids e = record e { parents = set.difference e.parents uids; indirect = set.difference e.indirect uids }

-- the same uid, attributes, tags and ancestors
pub record IsSameEntity (e f : EntityData) : Type 0 where
  pub uid : f.uid ≡ e.uid
  pub attributes : f.attributes ≡ e.attributes
  pub tags : f.tags ≡ e.tags
  pub ancestors : ancestors_of f ≡ ancestors_of e

-- f is e but for the ancestors kept beside its parents
pub record IsSameBesideAncestors (e f : EntityData) : Type 0 where
  pub uid : f.uid ≡ e.uid
  pub attributes : f.attributes ≡ e.attributes
  pub tags : f.tags ≡ e.tags
  pub parents : f.parents ≡ e.parents

-- the uids are those of the set, each once
pub record IsListOf (uids : List Uid) (s : UidSet) : Type 0 where
  pub members : (q : Uid) → is_member same_uid uids q ≡ set.contains s q
  pub distinct : IsDistinct same_uid uids
