use Rattle.std.proofs.Common.{◌≡◌, drop, length, take}
use Rattle.cedar_closure.specs.Graph.{edges_at, edges_of}
use Rattle.cedar_closure.proofs.Finding.{FindsNoMore, FindsBut}
use Rattle.cedar_closure.proofs.Numbered.{AreReachedFrom}
use Rattle.cedar_closure.proofs.closing.reached_from_each.Given as goal

abbrev pub invariant-loop-number : goal.invariant-loop-number
invariant-loop-number g l =
    let eq = g.K.PartialEq.eq in
    let next = edges_at (edges_of g.V.TCNode.direct g.V.TCNode.edges l.only_direct) (g.G.TCGraph.found l.nodes) in
    let first = take l.count l.numbering.keys.items in
    record {
      sound : FindsNoMore eq next first l.all.items;
      whole : FindsBut eq next first l.all.items (drop l.number first);
      count : length l.rows.items ≡ l.count;
      reached : AreReachedFrom l.number l.numbering.edges.items l.rows.items;
    }
