-- No key that was passed has an edge to itself, so one that has is still to come.
use Rattle.std.proofs.Common.{IsTrue, map}
use Rattle.std.specs.Set.{is_member}
use Rattle.std.specs.Map.Iter.{deref}
use Rattle.cedar_closure.specs.Graph.{HasEdge}
use Rattle.cedar_closure.proofs.enforcing.find_loop.Given as goal

abbrev pub invariant-loop-key : goal.invariant-loop-key
invariant-loop-key g l =
    let eq = g.K.PartialEq.eq in
    (a : g.row.K.Denot) → HasEdge eq g.V.TCNode.edges (g.G.TCGraph.found l.nodes) a a → IsTrue (is_member eq (map deref l.key-iterator.rest.items) a)
