use Rattle.std.proofs.Common.{◌≡◌, map}
use Rattle.std.specs.List.{fold, flat_map}
use Rattle.std.specs.Hash as fed
use Rattle.std.specs.Rc.{rc_str_bytes}
use Rattle.cedar_grammar.specs.Build.{keys}
use Rattle.cedar_trees.specs.Bare.{bare_entries}
use Rattle.cedar_shapes.proofs.marks.feed_keys.Given as goal

abbrev pub invariant-loop-key : goal.invariant-loop-key
invariant-loop-key g l =
    (goal.iterator-loop-key g).can_next l.key-iterator ×
    (goal.iterator-loop-key g).is_finite l.key-iterator ×
    (fold g.H.Hasher.write l.initial.state (flat_map fed.str (keys (bare_entries l.entries.entries)))
    ≡ fold g.H.Hasher.write l.state (flat_map fed.str (map rc_str_bytes l.key-iterator)))
