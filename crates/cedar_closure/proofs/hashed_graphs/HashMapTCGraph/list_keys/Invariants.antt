-- The keys listed and those still to come are the map's.
use Rattle.std.proofs.Common.{◌≡◌, ◌++◌, map}
use Rattle.std.specs.HashMap.{keys}
use Rattle.std.specs.Map.Iter.{deref}
use Rattle.cedar_closure.proofs.hashed_graphs.HashMapTCGraph.list_keys.Given as goal

abbrev pub invariant-loop-key : goal.invariant-loop-key
invariant-loop-key g l = map deref l.listed.items ++ l.key-iterator ≡ keys l.self
