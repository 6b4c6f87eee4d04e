-- The edges of each node are closed, or the node is left.
use Rattle.std.proofs.Common.{◌≡◌, ◌≤◌, length, map, sym, ap, ◌∙◌, inl, inr, arith, true≢false}
use Rattle.std.proofs.Math.ListN.{drop_of_length-le}
use Rattle.std.specs.Set.{is_member}
use Rattle.std.specs.Map.Iter.{deref}
use Rattle.std.proofs.lemmas.Bool.{or_cases}
use Rattle.cedar_closure.specs.Graph.{edges_at}
use Rattle.cedar_closure.proofs.Members.{or_more, or_else}
use Rattle.cedar_closure.proofs.NodeLemmas.{edge_alike}
use Rattle.cedar_closure.proofs.enforcing.enforce_tc.Goals as goal

pub loop-child-preserved : goal.loop-child-preserved
loop-child-preserved g c = λ a b q h k.
    let eq = g.K.PartialEq.eq in
    let edges = g.V.TCNode.edges in
    let laws = g.met.K.Eq.laws in
    let m = g.G.TCGraph.found c.args.nodes.now in
    let child = c.in-Some.child.now in
    let step = c.in-Some.ensures.steps.0 in
    elim (or_cases _ _ (c.loop-child.invariant a b q h k)) [
      | inl y ↦ or_more _ _ y
      | inr y ↦ elim (or_cases (eq a child) _ (sym (ap (λ ys. is_member eq (map deref ys) a) step) ∙ y)) [
        | inl e ↦ or_more _ _ (edge_alike edges m eq (g.met.G.TCGraph.alike c.args.nodes.now) child a q (laws.symm child a ∙ e) (c.in_ok-enforce_tc_at.ensures.closed b q (edge_alike edges m eq (g.met.G.TCGraph.alike c.args.nodes.now) a child b e h) k))
        | inr z ↦ or_else (is_member eq (edges_at edges m a) q) _ z
      ]
    ]

pub returns-clause-closed : goal.returns-clause-closed
returns-clause-closed g c = λ a b q h k.
    let left = c.loop-child.child-iterator.rest in
    let full : c.loop-child.child-iterator.rest.len ≡ length c.loop-child.child-iterator.rest.items = left.ok.0 in
    let end : c.loop-child.child-iterator.rest.len ≡ 0 = c.in-None.ensures.steps.0 in
    let past : length c.loop-child.child-iterator.rest.items ≤ 0 = omega arith in
    elim (or_cases _ _ (c.loop-child.invariant a b q h k)) [
      | inl y ↦ y
      | inr y ↦ absurd (true≢false (sym y ∙ ap (λ ys. is_member g.K.PartialEq.eq (map deref ys) a) (drop_of_length-le left.items past)))
    ]
