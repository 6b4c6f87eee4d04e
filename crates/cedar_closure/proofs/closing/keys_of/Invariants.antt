-- The keys listed and those still to come are the graph's.
use Rattle.std.proofs.Common.{◌≡◌, ◌++◌, map}
use Rattle.std.specs.Option.{is_some}
use Rattle.std.specs.Set.{is_member}
use Rattle.std.specs.Map.Iter.{deref}
use Rattle.cedar_closure.proofs.closing.keys_of.Given as goal

abbrev pub invariant-loop-key : goal.invariant-loop-key
invariant-loop-key g l = (q : g.row.K.Denot) → is_member g.K.PartialEq.eq (l.listed.items ++ map deref l.key-iterator.rest.items) q ≡ is_some (g.G.TCGraph.found l.nodes q)
