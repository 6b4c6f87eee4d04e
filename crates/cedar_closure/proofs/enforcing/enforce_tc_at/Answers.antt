-- Each edge of the child was looked at or is left; what the parent's node lacks was found by `find_missing`.
use Rattle.std.proofs.Common.{◌≡◌, false, IsTrue, map, sym, ap, ◌∙◌, inl, inr, Some, None, true≢false}
use Rattle.std.specs.Set.{is_member}
use Rattle.std.specs.Map.Iter.{deref}
use Rattle.std.proofs.lemmas.Bool.{or_cases}
use Rattle.cedar_closure.specs.Graph.{edges_at, HasEdge}
use Rattle.cedar_closure.proofs.Members.{or_more, or_else, some_then, none_then}
use Rattle.cedar_closure.proofs.NodeLemmas.{edges_of_node, no_edge_from, edge_alike, edge_to_alike}
use Rattle.cedar_closure.proofs.enforcing.enforce_tc_at.Goals as goal

pub returns-in-Some-2-clause-refused : goal.returns-in-Some-2-clause-refused
returns-in-Some-2-clause-refused g c =
    let eq = g.K.PartialEq.eq in
    let edges = g.V.TCNode.edges in
    let laws = g.met.K.Eq.laws in
    let m = g.G.TCGraph.found c.args.nodes.now in
    let child = c.args.child.now in
    let parent = c.in-Some-parent.parent.now in
    let k = c.in_ok-clone.field-0 in
    let l = c.in_ok-clone-2.field-0 in
    let x = c.in-Some-2.grandparent in
    let child_is : IsTrue (eq child k) = c.requires child k c.in_ok-clone.ensures.cases in
    let parent_is : IsTrue (eq parent l) = c.requires parent l c.in_ok-clone-2.ensures.cases in
    let left = ap (λ ys. is_member eq (map deref ys) parent) c.in-Some-parent.ensures.steps.0 in
    let up : HasEdge eq edges m child parent = c.loop-parent.invariant.known parent (left ∙ or_more _ _ (laws.refl parent)) in
    let is : c.in_ok-grandparent.field-0 ≡ Some x = cc in
    let found = some_then c.in_ok-grandparent.field-0 (λ q. IsTrue (is_member eq (edges c.in-Some-find_node.above.now) q) × (is_member eq (edges c.in-Some.node.now) q ≡ false)) x is c.in_ok-grandparent.ensures.found in
    let above = edges_of_node edges m parent c.in-Some-find_node.above.now c.in-Some-find_node.ensures in
    let node = edges_of_node edges m child c.in-Some.node.now c.in-Some.ensures in (
      edge_alike edges m eq (g.met.G.TCGraph.alike c.args.nodes.now) child k l child_is (edge_to_alike edges m eq laws child parent l parent_is up),
      edge_alike edges m eq (g.met.G.TCGraph.alike c.args.nodes.now) parent l x parent_is (ap (λ xs. is_member eq xs x) above ∙ found.0),
      λ h. true≢false (sym (edge_alike edges m eq (g.met.G.TCGraph.alike c.args.nodes.now) k child x (laws.symm k child ∙ child_is) h) ∙ ap (λ xs. is_member eq xs x) node ∙ found.1),
    )

pub loop-parent-preserved-in_default-2 : goal.loop-parent-preserved-in_default-2
loop-parent-preserved-in_default-2 g c =
    let eq = g.K.PartialEq.eq in
    let edges = g.V.TCNode.edges in
    let laws = g.met.K.Eq.laws in
    let m = g.G.TCGraph.found c.args.nodes.now in
    let child = c.args.child.now in
    let parent = c.in-Some-parent.parent.now in
    let step = c.in-Some-parent.ensures.steps.0 in
    let is : c.in_ok-grandparent.field-0 ≡ None = cc in
    let none = none_then c.in_ok-grandparent.field-0 _ is c.in_ok-grandparent.ensures.none in
    let above = edges_of_node edges m parent c.in-Some-find_node.above.now c.in-Some-find_node.ensures in
    let node = edges_of_node edges m child c.in-Some.node.now c.in-Some.ensures in
    record {
      left = λ b q h k. elim (or_cases _ _ (c.loop-parent.invariant.left b q h k)) [
        | inl y ↦ or_more _ _ y
        | inr y ↦ elim (or_cases (eq b parent) _ (sym (ap (λ ys. is_member eq (map deref ys) b) step) ∙ y)) [
          | inl e ↦ or_more _ _ (ap (λ xs. is_member eq xs q) node ∙ none q (sym (ap (λ xs. is_member eq xs q) above) ∙ edge_alike edges m eq (g.met.G.TCGraph.alike c.args.nodes.now) b parent q e k))
          | inr z ↦ or_else (is_member eq (edges_at edges m child) q) _ z
        ]
      ];
      known = λ b h. c.loop-parent.invariant.known b (ap (λ ys. is_member eq (map deref ys) b) step ∙ or_else (eq b parent) _ h);
    }

pub loop-parent-preserved : goal.loop-parent-preserved
loop-parent-preserved g c =
    let eq = g.K.PartialEq.eq in
    let edges = g.V.TCNode.edges in
    let laws = g.met.K.Eq.laws in
    let m = g.G.TCGraph.found c.args.nodes.now in
    let child = c.args.child.now in
    let parent = c.in-Some-parent.parent.now in
    let step = c.in-Some-parent.ensures.steps.0 in
    record {
      left = λ b q h k. elim (or_cases _ _ (c.loop-parent.invariant.left b q h k)) [
        | inl y ↦ or_more _ _ y
        | inr y ↦ elim (or_cases (eq b parent) _ (sym (ap (λ ys. is_member eq (map deref ys) b) step) ∙ y)) [
          | inl e ↦ absurd (no_edge_from edges m eq parent q c.in_default-find_node.ensures (edge_alike edges m eq (g.met.G.TCGraph.alike c.args.nodes.now) b parent q e k))
          | inr z ↦ or_else (is_member eq (edges_at edges m child) q) _ z
        ]
      ];
      known = λ b h. c.loop-parent.invariant.known b (ap (λ ys. is_member eq (map deref ys) b) step ∙ or_else (eq b parent) _ h);
    }
