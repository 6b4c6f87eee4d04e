-- A key that reaches itself has an edge, so it has a node, so it is one of the keys that `repair_tc` looked at.
use Rattle.std.proofs.Common.{refl, sym, ap, ◌∙◌, true≢false}
use Rattle.std.specs.Set.{is_member}
use Rattle.cedar_closure.specs.Graph.{edges_at}
use Rattle.cedar_closure.proofs.NodeLemmas.{edge_from_node}
use Rattle.cedar_closure.proofs.Search.{Reaches-first}
use Rattle.cedar_closure.proofs.Finding.{unchanged}
use Rattle.cedar_closure.proofs.Refusal.{on_err}
use Rattle.cedar_closure.proofs.closing.compute_tc.Goals as goal

pub returns-in-Ok-clause-acyclic : goal.returns-in-Ok-clause-acyclic
returns-in-Ok-clause-acyclic g c = λ dag a r.
    let eq = g.K.PartialEq.eq in
    let first = Reaches-first r in
    let node = edge_from_node g.V.TCNode.edges (g.G.TCGraph.found c.args.nodes.now) eq a first.0 first.1 in
    c.in-Ok.ensures.acyclic dag a (ap (λ xs. is_member eq xs a) c.deref.ensures.value ∙ c.in_ok-listed.ensures a ∙ node) r

pub returns-in-Ok-clause-edges : goal.returns-in-Ok-clause-edges
returns-in-Ok-clause-edges g c =
    let eq = g.K.PartialEq.eq in
    c.in-Ok.ensures.edges (λ a b lacks r.
    let first = Reaches-first r in
    let node = edge_from_node g.V.TCNode.edges (g.G.TCGraph.found c.args.nodes.now) eq a first.0 first.1 in
    absurd (true≢false (sym (ap (λ xs. is_member eq xs a) c.deref.ensures.value ∙ c.in_ok-listed.ensures a ∙ node) ∙ lacks)))

pub returns-in_err-listed-clause-left : goal.returns-in_err-listed-clause-left
returns-in_err-listed-clause-left g c =
    let next = edges_at g.V.TCNode.edges (g.G.TCGraph.found c.args.nodes.now) in
    on_err c.from_residual.result (unchanged g.K.PartialEq.eq next next (λ a. refl))
