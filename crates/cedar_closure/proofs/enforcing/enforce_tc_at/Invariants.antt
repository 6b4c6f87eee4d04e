use Rattle.std.proofs.Common.{IsTrue, ◌||◌, map}
use Rattle.std.specs.Set.{is_member}
use Rattle.std.specs.Map.Iter.{deref}
use Rattle.cedar_closure.specs.Graph.{edges_at, HasEdge}
use Rattle.cedar_closure.proofs.enforcing.enforce_tc_at.Given as goal

abbrev pub invariant-loop-parent : goal.invariant-loop-parent
invariant-loop-parent g l =
    let eq = g.K.PartialEq.eq in
    let E = HasEdge eq g.V.TCNode.edges (g.G.TCGraph.found l.nodes) in
    record {
      left : (b c : g.row.K.Denot) → E l.child b → E b c → IsTrue (is_member eq (edges_at g.V.TCNode.edges (g.G.TCGraph.found l.nodes) l.child) c || is_member eq (map deref l.parent-iterator.rest.items) b);
      known : (b : g.row.K.Denot) → IsTrue (is_member eq (map deref l.parent-iterator.rest.items) b) → E l.child b;
    }
