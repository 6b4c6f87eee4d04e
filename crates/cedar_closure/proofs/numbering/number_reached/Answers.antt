-- The edges of one more key, and all that they lead to, behind what is there (Numbered).
use Rattle.std.proofs.Common.{◌≡◌, ◌≤◌, ◌<◌, ◌+◌, ◌++◌, length, slice_get, Some, IsTrue, ap, sym, ◌∙◌, arith, subst}
use Rattle.std.proofs.lemmas.Map.Made.{length-le_from_is_member}
use Rattle.std.proofs.lemmas.List.{length_push}
use Rattle.cedar_closure.specs.Graph.{edges_at, edges_of}
use Rattle.cedar_closure.specs.Numbering.{IsNumbering}
use Rattle.cedar_closure.proofs.NodeLemmas.{all_targets, edge_from_node, edges_alike, member-all_targets}
use Rattle.cedar_closure.proofs.NumberSets.{behind_then}
use Rattle.cedar_closure.proofs.Numbered.{edges_step, targets_below, bound_step, longer, nothing_behind, no_edges, no_targets, front_is_member}
use Rattle.cedar_closure.proofs.numbering.number_reached.Goals as goal

pub loop-numbered-init : goal.loop-numbered-init
loop-numbered-init g c =
    let eq = g.K.PartialEq.eq in
    let edges = edges_of g.V.TCNode.direct g.V.TCNode.edges c.args.only_direct in
    record {
      found = c.requires.found;
      behind = nothing_behind c.args.first.keys.items;
      follows = no_edges eq c.args.first.keys.items (edges_at edges (g.G.TCGraph.found c.args.nodes.now)) c.new-edges.result.items c.new-edges.ensures.items;
      below = no_targets c.new-edges.result.items (length c.args.first.keys.items) c.new-edges.ensures.items;
      counted = ap length c.new-edges.ensures.items;
      short = omega arith;
      bound = front_is_member eq c.args.first.keys.items (all_targets (edges_at edges (g.G.TCGraph.found c.args.nodes.now)) (g.G.TCGraph.keys c.args.nodes.now));
    }

pub loop-numbered-preserved : goal.loop-numbered-preserved
loop-numbered-preserved g c =
    let eq = g.K.PartialEq.eq in
    let laws = g.met.K.Eq.laws in
    let node = edges_of g.V.TCNode.direct g.V.TCNode.edges c.args.only_direct in
    let m = g.G.TCGraph.found c.args.nodes.now in
    let next = edges_at node m in
    let same = edges_alike node m eq (g.met.G.TCGraph.alike c.args.nodes.now) in
    let nodes = g.G.TCGraph.keys c.args.nodes.now in
    let inv = c.loop-numbered.invariant in
    let old = c.loop-numbered.keys.keys.items in
    let new = c.numbers_from.new.keys.keys.items in
    let made = c.in_ok-numbers.ensures in
    let edges = c.loop-numbered.edges.items in
    let after = c.push.new.self.items in
    let row = c.in_ok-numbers.numbers in
    let x = c.key.result.now in
    let at = c.in_ok-at.at in
    let clone : IsTrue (eq x at) = c.requires.clones x at c.in_ok-at.ensures.cases in
    let here : slice_get old (length edges) ≡ Some x = ap (slice_get old) inv.counted ∙ c.key.ensures in
    let pushed = c.in_ok-push.ensures.items in
    let grows : length c.loop-numbered.keys.keys.items ≤ length c.numbers_from.new.keys.keys.items = longer old made.behind.0 new made.behind.1 in
    record {
      found = made.found;
      behind = behind_then c.args.first.keys.items old new inv.behind made.behind;
      follows = edges_step laws next same old made.behind.0 new edges after row x at made.behind.1 pushed here clone made.numbers inv.below inv.follows;
      below = targets_below edges after row (length old) (length new) pushed grows made.below inv.below;
      counted = ap length pushed ∙ length_push edges row ∙ ap (λ n. n + 1) inv.counted;
      short = omega arith;
      bound = bound_step eq c.args.first.keys.items (all_targets next nodes) old (next at) new made.union (λ q h. member-all_targets next eq same nodes at q (g.met.G.TCGraph.has_node c.args.nodes.now at ∙ edge_from_node node m eq at q h) h) inv.bound;
    }

pub loop-numbered-smaller : goal.loop-numbered-smaller
loop-numbered-smaller g c =
    let all = c.args.first.keys.items ++ all_targets (edges_at (edges_of g.V.TCNode.direct g.V.TCNode.edges c.args.only_direct) (g.G.TCGraph.found c.args.nodes.now)) (g.G.TCGraph.keys c.args.nodes.now) in
    let bound : length c.loop-numbered.keys.keys.items ≤ length (c.args.first.keys.items ++ all_targets (edges_at (edges_of g.V.TCNode.direct g.V.TCNode.edges c.args.only_direct) (g.G.TCGraph.found c.args.nodes.now)) (g.G.TCGraph.keys c.args.nodes.now)) =
    length-le_from_is_member g.met.K.Eq.laws c.loop-numbered.keys.keys.items all c.loop-numbered.invariant.found.distinct c.loop-numbered.invariant.bound in
    let below : c.loop-numbered.numbered < length c.loop-numbered.keys.keys.items = omega arith in
    omega arith

pub returns : goal.returns
returns g c =
    let eq = g.K.PartialEq.eq in
    let next = edges_at (edges_of g.V.TCNode.direct g.V.TCNode.edges c.args.only_direct) (g.G.TCGraph.found c.args.nodes.now) in
    let inv = c.loop-numbered.invariant in
    let past : length c.loop-numbered.keys.keys.items ≤ c.loop-numbered.numbered = omega arith in
    let short : c.loop-numbered.numbered ≤ length c.loop-numbered.keys.keys.items = inv.short in
    let counted : length c.loop-numbered.edges.items ≡ c.loop-numbered.numbered = inv.counted in
    let lengths : length c.loop-numbered.edges.items ≡ length c.loop-numbered.keys.keys.items = omega arith in
    subst (λ keys. IsNumbering eq next c.args.first.keys.items keys c.loop-numbered.edges.items) (ap (λ v. v.items) (sym c.into_keys.ensures)) (record {
      more = inv.behind.0;
      cut = inv.behind.1;
      lengths = lengths;
      within = λ a b h. subst (λ n. b < n) (sym lengths) (inv.below a b h);
      follows = inv.follows;
    })
