-- What was fed so far and the keys that are left make what all keys feed.
use Rattle.std.proofs.Common.{◌≡◌}
use Rattle.std.specs.Hash as fed
use Rattle.std.specs.List.{fold, flat_map}
use Rattle.cedar_values.specs.Kinds.{keys_of}
use Rattle.cedar_values.proofs.values.hashes.hash_keys.Given as goal

abbrev pub invariant-loop-key : goal.invariant-loop-key
invariant-loop-key g l =
    (goal.iterator-loop-key g).can_next l.key-iterator ×
    (goal.iterator-loop-key g).is_finite l.key-iterator ×
    (fold g.H.Hasher.write l.state (flat_map fed.str (keys_of l.key-iterator)) ≡ fold g.H.Hasher.write l.initial.state (flat_map fed.str (keys_of l.fields.entries)))
