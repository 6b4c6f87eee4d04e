-- Entities that are one by their uids, and entities that are the same but for ancestors.
use Rattle.std.specs.Prelude.{Bool, refl}
use Rattle.std.proofs.Common.{◌∙◌}
use Rattle.std.specs.Cmp.{IsEquivalence, IsPartialEquivalence, partial_equiv_from_equiv, on_equiv}
use Rattle.std.specs.Hash.{HashWrites, Alike, on_Alike}
use Rattle.cedar_language.specs.Order.{same_uid}
use Rattle.cedar_literals.specs.Uids.{uid_hash}
use Rattle.cedar_literals.specs.Laws.{same_uid_equiv, uid_hash_alike}
use Rattle.cedar_entities.specs.Data.{EntityData, IsSameBesideAncestors}

abbrev pub same_by_uid : EntityData → EntityData → Bool
same_by_uid e f = same_uid e.uid f.uid

pub same_by_uid_equiv : IsEquivalence same_by_uid
same_by_uid_equiv = on_equiv (λ (e : EntityData). e.uid) same_uid_equiv

pub same_by_uid_partial : IsPartialEquivalence same_by_uid
same_by_uid_partial = partial_equiv_from_equiv same_by_uid_equiv

abbrev pub hash_by_uid : EntityData → HashWrites
hash_by_uid e = uid_hash e.uid

pub hash_by_uid_alike : Alike same_by_uid hash_by_uid
hash_by_uid_alike = on_Alike (λ (e : EntityData). e.uid) uid_hash_alike

pub same_beside_itself : (e : EntityData) → IsSameBesideAncestors e e
same_beside_itself e = record { uid = refl; attributes = refl; tags = refl; parents = refl }

pub same_beside_through : (e f g : EntityData) → IsSameBesideAncestors e f → IsSameBesideAncestors f g → IsSameBesideAncestors e g
same_beside_through e f g h k = record { uid = k.uid ∙ h.uid; attributes = k.attributes ∙ h.attributes; tags = k.tags ∙ h.tags; parents = k.parents ∙ h.parents }
