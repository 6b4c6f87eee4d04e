use Rattle.std.proofs.Common.{◌≡◌, drop}
use Rattle.std.specs.List.{fold}
use Rattle.cedar_language.specs.Order.{all_of}
use Rattle.cedar_values.specs.Hashes.{values_hash}
use Rattle.cedar_values.specs.Kinds.{values_of}
use Rattle.cedar_values.proofs.values.hashes.+hash_kinds.Given as goal

abbrev pub invariant-hash_fields-loop-key : goal.invariant-hash_fields-loop-key
invariant-hash_fields-loop-key g l =
    (goal.iterator-hash_fields-loop-key g).can_next l._key-iterator ×
    (goal.iterator-hash_fields-loop-key g).is_finite l._key-iterator ×
    (fold g.H.Hasher.write l.state (values_hash (values_of l._key-iterator)) ≡ fold g.H.Hasher.write l.initial.state (values_hash (values_of l.fields.entries)))

abbrev pub invariant-hash_members-loop-member : goal.invariant-hash_members-loop-member
invariant-hash_members-loop-member g l =
    fold g.H.Hasher.write l.state (values_hash (all_of (drop l.member-index l.member-items))) ≡ fold g.H.Hasher.write l.initial.state (values_hash (all_of l.set))
