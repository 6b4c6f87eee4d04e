-- What was found is what the keys reach (Finding), and clones of a key stand for it.
use Rattle.std.proofs.Common.{IsTrue, refl, sym, ap, ◌∙◌, subst, true≢false}
use Rattle.std.specs.Option.{is_some}
use Rattle.std.specs.Set.{is_member}
use Rattle.cedar_closure.specs.Found.{finds}
use Rattle.cedar_language.specs.Facts.{Reaches}
use Rattle.cedar_closure.specs.Graph.{edges_at, HasEdge}
use Rattle.cedar_closure.proofs.Members.{member_alike}
use Rattle.cedar_closure.proofs.NodeLemmas.{edges_alike, edge_from_node}
use Rattle.cedar_closure.proofs.Finding.{Reaches-alike, Reaches-to, unchanged, only_found, others_stay, fixes, closes}
use Rattle.cedar_closure.proofs.Refusal.{on_err, passed_on}
use Rattle.cedar_closure.proofs.closing.repair_tc.Goals as goal

pub returns-in_err-refuse_cycle-clause-refused : goal.returns-in_err-refuse_cycle-clause-refused
returns-in_err-refuse_cycle-clause-refused g c =
    let eq = g.K.PartialEq.eq in
    let all = c.deref.result.now in
    passed_on c.args.enforce_dag (λ k. IsTrue (finds eq all k k))
    (λ k. IsTrue (is_member eq c.args.keys_to_fix.now k) × Reaches (HasEdge eq g.V.TCNode.edges (g.G.TCGraph.found c.args.nodes.now)) k k)
    (λ k h. c.in_ok-all.ensures.sound k k (subst (λ rs. IsTrue (finds eq rs k k)) c.deref.ensures.value h))
    c.in_err-refuse_cycle.field-0.0 c.in_err-refuse_cycle.ensures.refused c.from_residual-in_err-refuse_cycle.result
    c.from_residual-in_err-refuse_cycle.ensures.1

pub returns-clause-fixed : goal.returns-clause-fixed
returns-clause-fixed g c =
    let eq = g.K.PartialEq.eq in
    let edges = g.V.TCNode.edges in
    let m = g.G.TCGraph.found c.args.nodes.now in
    fixes eq (edges_at edges m) (edges_at edges (g.G.TCGraph.found c.add_all.new.nodes)) (λ a. is_some (m a)) c.args.keys_to_fix.now c.in_ok-all.all.items
    c.in_ok-add_all.ensures.added (edge_from_node edges m eq) c.in_ok-all.ensures.sound c.in_ok-all.ensures.whole

pub returns-clause-edges : goal.returns-clause-edges
returns-clause-edges g c =
    let eq = g.K.PartialEq.eq in
    let edges = g.V.TCNode.edges in
    let m = g.G.TCGraph.found c.args.nodes.now in
    closes eq (edges_at edges m) (edges_at edges (g.G.TCGraph.found c.add_all.new.nodes)) (λ a. is_some (m a)) c.args.keys_to_fix.now c.in_ok-all.all.items
    c.in_ok-add_all.ensures.added (edge_from_node edges m eq) c.in_ok-all.ensures.sound c.in_ok-all.ensures.whole

pub returns-in_err-all-clause-left : goal.returns-in_err-all-clause-left
returns-in_err-all-clause-left g c =
    let next = edges_at g.V.TCNode.edges (g.G.TCGraph.found c.args.nodes.now) in
    on_err c.from_residual.result (unchanged g.K.PartialEq.eq next next (λ a. refl))

pub returns-in_err-refuse_cycle-clause-left : goal.returns-in_err-refuse_cycle-clause-left
returns-in_err-refuse_cycle-clause-left g c =
    let next = edges_at g.V.TCNode.edges (g.G.TCGraph.found c.args.nodes.now) in
    on_err c.from_residual-in_err-refuse_cycle.result (unchanged g.K.PartialEq.eq next next (λ a. refl))

pub returns-in_err-add_all-clause-left : goal.returns-in_err-add_all-clause-left
returns-in_err-add_all-clause-left g c =
    let eq = g.K.PartialEq.eq in
    let edges = g.V.TCNode.edges in
    let m = g.G.TCGraph.found c.args.nodes.now in
    on_err c.from_residual-in_err-add_all.result
    (only_found eq (edges_at edges m) (edges_at edges (g.G.TCGraph.found c.add_all.new.nodes)) (λ a. is_some (m a)) c.args.keys_to_fix.now c.in_ok-all.all.items c.in_ok-all.ensures.sound c.in_err-add_all.ensures.left)

pub returns-in_err-all-clause-others_left : goal.returns-in_err-all-clause-others_left
returns-in_err-all-clause-others_left g c = on_err c.from_residual.result (λ a b none. (λ h. h, λ h. h))

pub returns-in_err-refuse_cycle-clause-others_left : goal.returns-in_err-refuse_cycle-clause-others_left
returns-in_err-refuse_cycle-clause-others_left g c = on_err c.from_residual-in_err-refuse_cycle.result (λ a b none. (λ h. h, λ h. h))

pub returns-in_err-add_all-clause-others_left : goal.returns-in_err-add_all-clause-others_left
returns-in_err-add_all-clause-others_left g c =
    let eq = g.K.PartialEq.eq in
    let edges = g.V.TCNode.edges in
    let m = g.G.TCGraph.found c.args.nodes.now in
    on_err c.from_residual-in_err-add_all.result
    (others_stay eq (edges_at edges m) (edges_at edges (g.G.TCGraph.found c.add_all.new.nodes)) (λ a. is_some (m a)) c.args.keys_to_fix.now c.in_ok-all.all.items c.in_ok-all.ensures.sound c.in_err-add_all.ensures.left)

pub returns-clause-acyclic : goal.returns-clause-acyclic
returns-clause-acyclic g c = λ dag a l r.
    let none = c.in_ok-refuse_cycle.ensures.acyclic dag a in
    absurd (true≢false (sym (c.in_ok-all.ensures.whole a a l r) ∙ sym (ap (λ rs. finds g.K.PartialEq.eq rs a a) c.deref.ensures.value) ∙ none))
