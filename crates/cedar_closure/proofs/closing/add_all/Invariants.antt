-- What was found of the keys still to come, and the edges so far, are all that was found and the edges before.
use Rattle.std.proofs.Common.{◌≡◌, ◌||◌, ◌&&◌}
use Rattle.std.specs.Option.{is_some}
use Rattle.std.specs.Set.{is_member}
use Rattle.cedar_closure.specs.Graph.{edges_at, HasEdge, SameNodes}
use Rattle.cedar_closure.specs.Found.{finds}
use Rattle.cedar_closure.proofs.closing.add_all.Given as goal

abbrev pub invariant-loop-reached : goal.invariant-loop-reached
invariant-loop-reached g l =
    let eq = g.K.PartialEq.eq in
    let now = g.G.TCGraph.found l.nodes in
    let old = g.G.TCGraph.found l.fn.nodes in
    let edges = g.V.TCNode.edges in
    record {
      added : (a q : g.row.K.Denot) → (is_member eq (edges_at edges now a) q || (is_some (old a) && finds eq l.reached-iterator.rest.items a q)) ≡ (is_member eq (edges_at edges old a) q || (is_some (old a) && finds eq l.fn.all.items a q));
      kept : (a q : g.row.K.Denot) → HasEdge eq edges old a q → HasEdge eq edges now a q;
      same : SameNodes g.V.TCNode.is_same old now;
    }
