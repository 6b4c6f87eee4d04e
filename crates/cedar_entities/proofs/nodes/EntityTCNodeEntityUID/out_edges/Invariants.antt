use Rattle.std.proofs.Common.{◌≡◌, ◌++◌, map}
use Rattle.std.specs.Map.Iter.{deref}
use Rattle.cedar_entities.proofs.nodes.EntityTCNodeEntityUID.out_edges.Given as goal

abbrev pub invariant-loop-uid : goal.invariant-loop-uid
invariant-loop-uid l = map deref l.targets.items ++ l.uid-iterator ≡ l.initial.uid-iterator
