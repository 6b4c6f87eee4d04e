-- The lemmas of Resetting: a node that was passed has its direct edges alone, and each other one what it had.
use Rattle.std.proofs.Common.{◌≡◌, ◌<◌, ◌+◌, ◌∷◌, Some, refl, sym, ap, ◌∙◌, drop, length, slice_get, arith}
use Rattle.std.proofs.lemmas.List.{drop_more}
use Rattle.std.proofs.lemmas.Option.{slice_get_read}
use Rattle.cedar_closure.specs.Graph.{edges_at}
use Rattle.cedar_closure.proofs.Members.{member_at}
use Rattle.cedar_closure.proofs.Resetting.{nodes_through, direct_at, either_still, reset_still, unlisted_still}
use Rattle.cedar_closure.proofs.rebuilding.reset_all.Goals as goal

pub loop-at-preserved : goal.loop-at-preserved
loop-at-preserved g c =
    let eq = g.K.PartialEq.eq in
    let laws = g.met.K.Eq.laws in
    let node = g.V.TCNode in
    let m = g.G.TCGraph.found c.args.nodes.now in
    let now = g.G.TCGraph.found c.loop-at.nodes in
    let new = g.G.TCGraph.found c.reset_edges_at.new.self in
    let D = edges_at node.direct m in
    let E = edges_at node.edges m in
    let D' = edges_at node.direct now in
    let M = edges_at node.edges now in
    let F = edges_at node.edges new in
    let listed = c.args.listed.now in
    let i = c.loop-at.at-index in
    let x = c.at-item.result in
    let here : c.loop-at.at-index < length c.args.listed.now = omega arith in
    let cut : drop i listed ≡ x ∷ drop (i + 1) listed = drop_more listed i x here ∙ ap (λ y. y ∷ drop (i + 1) listed) (sym c.at-item.is) in
    let at : slice_get listed i ≡ Some x = slice_get_read listed (length listed) i x refl here c.at-item.is in
    let stays = direct_at node.is_same node.direct g.met.V.TCNode.direct_stays m now c.loop-at.invariant.same in
    let step = c.in_ok-reset_edges_at.ensures in
    record {
      reset = reset_still eq D E laws D' M F x stays step.reset step.others listed (drop i listed) (drop (i + 1) listed) cut c.loop-at.invariant.reset;
      others = unlisted_still eq D E laws D' M F x stays step.reset step.others listed (member_at laws listed i x at) c.loop-at.invariant.others;
      either = either_still eq D E laws D' M F x stays step.reset step.others c.loop-at.invariant.either;
      same = nodes_through node.is_same g.met.V.TCNode.through m now new c.loop-at.invariant.same step.same;
    }
