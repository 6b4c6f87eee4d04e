use Rattle.std.proofs.Common.{◌≡◌, ◌⊎◌, drop, false, IsTrue}
use Rattle.std.specs.Set.{is_member}
use Rattle.cedar_closure.specs.Graph.{SameNodes, SameKeys, edges_at}
use Rattle.cedar_closure.proofs.rebuilding.reset_all.Given as goal

abbrev pub invariant-loop-at : goal.invariant-loop-at
invariant-loop-at g l =
    let eq = g.K.PartialEq.eq in
    record {
      reset : (a : g.row.K.Denot) → IsTrue (is_member eq l.listed a) → is_member eq (drop l.at-index l.listed) a ≡ false → SameKeys eq (edges_at g.V.TCNode.direct (g.G.TCGraph.found l.fn.nodes) a) (edges_at g.V.TCNode.edges (g.G.TCGraph.found l.nodes) a);
      others : (a : g.row.K.Denot) → is_member eq l.listed a ≡ false → edges_at g.V.TCNode.edges (g.G.TCGraph.found l.nodes) a ≡ edges_at g.V.TCNode.edges (g.G.TCGraph.found l.fn.nodes) a;
      either : (a : g.row.K.Denot) → SameKeys eq (edges_at g.V.TCNode.direct (g.G.TCGraph.found l.fn.nodes) a) (edges_at g.V.TCNode.edges (g.G.TCGraph.found l.nodes) a) ⊎ (edges_at g.V.TCNode.edges (g.G.TCGraph.found l.nodes) a ≡ edges_at g.V.TCNode.edges (g.G.TCGraph.found l.fn.nodes) a);
      same : SameNodes g.V.TCNode.is_same (g.G.TCGraph.found l.fn.nodes) (g.G.TCGraph.found l.nodes);
    }
