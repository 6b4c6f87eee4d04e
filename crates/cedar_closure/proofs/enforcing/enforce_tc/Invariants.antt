use Rattle.std.proofs.Common.{IsTrue, ◌||◌, map}
use Rattle.std.specs.Set.{is_member}
use Rattle.std.specs.Map.Iter.{deref}
use Rattle.cedar_closure.specs.Graph.{edges_at, HasEdge}
use Rattle.cedar_closure.proofs.enforcing.enforce_tc.Given as goal

abbrev pub invariant-loop-child : goal.invariant-loop-child
invariant-loop-child g l =
    let eq = g.K.PartialEq.eq in
    let E = HasEdge eq g.V.TCNode.edges (g.G.TCGraph.found l.nodes) in
    (a b c : g.row.K.Denot) → E a b → E b c → IsTrue (is_member eq (edges_at g.V.TCNode.edges (g.G.TCGraph.found l.nodes) a) c || is_member eq (map deref l.child-iterator.rest.items) a)
