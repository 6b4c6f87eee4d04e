use Rattle.std.proofs.Common.{◌≡◌}
use Rattle.cedar_trees.specs.Bare.{bare_entries}
use Rattle.cedar_trees.specs.Records.{entries_made}
use Rattle.cedar_trees.proofs.Records.{all_put}
use Rattle.cedar_trees.proofs.kinds.map_of.Given as goal

abbrev pub invariant-loop-key : goal.invariant-loop-key
invariant-loop-key g l = entries_made (bare_entries l.fn.pairs.items) ≡ all_put (bare_entries l.map.entries) (bare_entries l.key-iterator.rest.items)
