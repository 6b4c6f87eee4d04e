use Rattle.std.proofs.Common.{◌≡◌, List, ◌++◌, ℕ, ◌<◌, ◌≤◌, ◌-◌, length, IsTrue}
use Rattle.std.specs.Set.{is_member}
use Rattle.cedar_closure.specs.Graph.{edges_at, edges_of}
use Rattle.cedar_closure.specs.Numbers.{HasTarget}
use Rattle.cedar_closure.specs.Keys.{digest, IsFound}
use Rattle.cedar_closure.specs.Numbering.{AreEdgesOf}
use Rattle.cedar_closure.proofs.NodeLemmas.{all_targets}
use Rattle.cedar_closure.proofs.numbering.number_reached.Given as goal

abbrev pub invariant-loop-numbered : goal.invariant-loop-numbered
invariant-loop-numbered g l =
    let eq = g.K.PartialEq.eq in
    let edges = edges_of g.V.TCNode.direct g.V.TCNode.edges l.only_direct in
    record {
      found : IsFound eq (λ x. digest (g.K.Hash.hash_input x)) l.keys.keys.items l.keys.numbers;
      behind : (more : List g.row.K.Denot) × (l.keys.keys.items ≡ l.fn.first.keys.items ++ more);
      follows : AreEdgesOf eq l.keys.keys.items (edges_at edges (g.G.TCGraph.found l.nodes)) l.edges.items;
      below : (a b : ℕ) → HasTarget l.edges.items a b → b < length l.keys.keys.items;
      counted : length l.edges.items ≡ l.numbered;
      short : l.numbered ≤ length l.keys.keys.items;
      bound : (q : g.row.K.Denot) → IsTrue (is_member eq l.keys.keys.items q) → IsTrue (is_member eq (l.fn.first.keys.items ++ all_targets (edges_at edges (g.G.TCGraph.found l.nodes)) (g.G.TCGraph.keys l.nodes)) q);
    }

abbrev pub decreases-loop-numbered : goal.decreases-loop-numbered
decreases-loop-numbered g l = length (l.fn.first.keys.items ++ all_targets (edges_at (edges_of g.V.TCNode.direct g.V.TCNode.edges l.only_direct) (g.G.TCGraph.found l.nodes)) (g.G.TCGraph.keys l.nodes)) - l.numbered
