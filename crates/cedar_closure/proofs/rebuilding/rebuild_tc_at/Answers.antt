-- What direct edges reach from the keys is found before they are reset, and added then (Resetting).
use Rattle.std.proofs.Common.{◌≡◌, IsTrue, refl, sym, ap, ◌∙◌, subst, true≢false}
use Rattle.std.specs.Option.{is_some}
use Rattle.std.specs.Set.{is_member}
use Rattle.cedar_closure.specs.Found.{finds}
use Rattle.cedar_language.specs.Facts.{Reaches}
use Rattle.cedar_closure.specs.Graph.{edges_at, HasEdge}
use Rattle.cedar_closure.proofs.Finding.{Reaches-alike, Reaches-to}
use Rattle.cedar_closure.proofs.Members.{member_alike}
use Rattle.cedar_closure.proofs.NodeLemmas.{edges_alike, edge_from_node}
use Rattle.cedar_closure.proofs.Refusal.{on_err, passed_on}
use Rattle.cedar_closure.proofs.Resetting.{direct_at, partly_untouched, partly_reset, rebuilt, partly_rebuilt, others_kept}
use Rattle.cedar_closure.proofs.rebuilding.rebuild_tc_at.Goals as goal

pub returns-clause-edges : goal.returns-clause-edges
returns-clause-edges g c =
    let eq = g.K.PartialEq.eq in
    let node = g.V.TCNode in
    let m = g.G.TCGraph.found c.args.nodes.now in
    let left = g.G.TCGraph.found c.reset_all.new.nodes in
    let after = g.G.TCGraph.found c.add_all.new.nodes in
    let reset = c.in_ok-reset_all.ensures in
    rebuilt eq (edges_at node.direct m) (edges_at node.edges m) (edges_at node.edges left) c.args.keys.now c.requires.beside reset.reset reset.others
    (edges_at node.edges after) (λ a. is_some (left a)) (finds eq c.in_ok-all.all.items) c.in_ok-all.ensures.sound c.in_ok-all.ensures.whole
    (λ a q h. edge_from_node node.direct left eq a q (ap (λ ys. is_member eq ys q) (direct_at node.is_same node.direct g.met.V.TCNode.direct_stays m left reset.same a) ∙ h))
    c.in_ok-add_all.ensures.added

pub returns-in_err-refuse_cycle-clause-refused : goal.returns-in_err-refuse_cycle-clause-refused
returns-in_err-refuse_cycle-clause-refused g c =
    let eq = g.K.PartialEq.eq in
    let all = c.deref.result.now in
    passed_on c.args.enforce_dag (λ k. IsTrue (finds eq all k k))
    (λ k. IsTrue (is_member eq c.args.keys.now k) × Reaches (HasEdge eq g.V.TCNode.direct (g.G.TCGraph.found c.args.nodes.now)) k k)
    (λ k h. c.in_ok-all.ensures.sound k k (subst (λ rs. IsTrue (finds eq rs k k)) c.deref.ensures.value h))
    c.in_err-refuse_cycle.field-0.0 c.in_err-refuse_cycle.ensures.refused c.from_residual-in_err-refuse_cycle.result
    c.from_residual-in_err-refuse_cycle.ensures.1

pub returns-in_err-all-clause-left : goal.returns-in_err-all-clause-left
returns-in_err-all-clause-left g c =
    on_err c.from_residual.result
    (partly_untouched g.K.PartialEq.eq (edges_at g.V.TCNode.direct (g.G.TCGraph.found c.args.nodes.now)) (edges_at g.V.TCNode.edges (g.G.TCGraph.found c.args.nodes.now)))

pub returns-in_err-all-clause-others_left : goal.returns-in_err-all-clause-others_left
returns-in_err-all-clause-others_left g c = on_err c.from_residual.result (λ a b none. (λ h. h, λ h. h))

pub returns-in_err-refuse_cycle-clause-left : goal.returns-in_err-refuse_cycle-clause-left
returns-in_err-refuse_cycle-clause-left g c =
    on_err c.from_residual-in_err-refuse_cycle.result
    (partly_untouched g.K.PartialEq.eq (edges_at g.V.TCNode.direct (g.G.TCGraph.found c.args.nodes.now)) (edges_at g.V.TCNode.edges (g.G.TCGraph.found c.args.nodes.now)))

pub returns-in_err-refuse_cycle-clause-others_left : goal.returns-in_err-refuse_cycle-clause-others_left
returns-in_err-refuse_cycle-clause-others_left g c = on_err c.from_residual-in_err-refuse_cycle.result (λ a b none. (λ h. h, λ h. h))

pub returns-in_err-reset_all-clause-left : goal.returns-in_err-reset_all-clause-left
returns-in_err-reset_all-clause-left g c =
    let eq = g.K.PartialEq.eq in
    let node = g.V.TCNode in
    let m = g.G.TCGraph.found c.args.nodes.now in
    on_err c.from_residual-in_err-reset_all.result
    (partly_reset eq (edges_at node.direct m) (edges_at node.edges m) (edges_at node.edges (g.G.TCGraph.found c.reset_all.new.nodes)) c.in_err-reset_all.ensures.left)

pub returns-in_err-reset_all-clause-others_left : goal.returns-in_err-reset_all-clause-others_left
returns-in_err-reset_all-clause-others_left g c =
    let eq = g.K.PartialEq.eq in
    on_err c.from_residual-in_err-reset_all.result
    (λ a b none. let same = ap (λ ys. is_member eq ys b) (c.in_err-reset_all.ensures.others a none) in (λ h. sym same ∙ h, λ h. same ∙ h))

pub returns-in_err-add_all-clause-left : goal.returns-in_err-add_all-clause-left
returns-in_err-add_all-clause-left g c =
    let eq = g.K.PartialEq.eq in
    let node = g.V.TCNode in
    let m = g.G.TCGraph.found c.args.nodes.now in
    let left = g.G.TCGraph.found c.reset_all.new.nodes in
    let reset = c.in_ok-reset_all.ensures in
    on_err c.from_residual-in_err-add_all.result
    (partly_rebuilt eq (edges_at node.direct m) (edges_at node.edges m) (edges_at node.edges left) c.args.keys.now c.requires.beside reset.reset reset.others
    (edges_at node.edges (g.G.TCGraph.found c.add_all.new.nodes)) (λ a. is_some (left a)) (finds eq c.in_ok-all.all.items) c.in_ok-all.ensures.sound c.in_err-add_all.ensures.left)

pub returns-in_err-add_all-clause-others_left : goal.returns-in_err-add_all-clause-others_left
returns-in_err-add_all-clause-others_left g c =
    let eq = g.K.PartialEq.eq in
    let node = g.V.TCNode in
    let m = g.G.TCGraph.found c.args.nodes.now in
    let left = g.G.TCGraph.found c.reset_all.new.nodes in
    let reset = c.in_ok-reset_all.ensures in
    on_err c.from_residual-in_err-add_all.result
    (others_kept eq (edges_at node.direct m) (edges_at node.edges m) (edges_at node.edges left) c.args.keys.now c.requires.beside reset.reset reset.others
    (edges_at node.edges (g.G.TCGraph.found c.add_all.new.nodes)) (λ a. is_some (left a)) (finds eq c.in_ok-all.all.items) c.in_ok-all.ensures.sound c.in_err-add_all.ensures.left)

pub returns-clause-acyclic : goal.returns-clause-acyclic
returns-clause-acyclic g c = λ dag a l r.
    let none = c.in_ok-refuse_cycle.ensures.acyclic dag a in
    absurd (true≢false (sym (c.in_ok-all.ensures.whole a a l r) ∙ sym (ap (λ rs. finds g.K.PartialEq.eq rs a a) c.deref.ensures.value) ∙ none))
