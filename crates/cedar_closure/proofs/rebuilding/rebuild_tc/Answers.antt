-- What is reached along the edges that are left by the reset is what is reached along direct ones.
use Rattle.std.proofs.Common.{sym, ◌∙◌, ap}
use Rattle.std.specs.Set.{is_member}
use Rattle.cedar_closure.specs.Graph.{HasEdge, edges_at}
use Rattle.cedar_language.specs.Facts.{Reaches}
use Rattle.cedar_closure.proofs.Search.{Reaches-more}
use Rattle.cedar_closure.proofs.Refusal.{IsTcRefusal-weaker, on_err}
use Rattle.cedar_closure.proofs.Resetting.{partly_reset, partly_closed, reset_everywhere}
use Rattle.cedar_closure.proofs.rebuilding.rebuild_tc.Goals as goal

pub returns-in-Ok-clause-edges : goal.returns-in-Ok-clause-edges
returns-in-Ok-clause-edges g c = λ a b.
    let eq = g.K.PartialEq.eq in
    let node = g.V.TCNode in
    let m = g.G.TCGraph.found c.args.nodes.now in
    let listed = c.in_ok-listed.listed.items in
    let here = c.deref.ensures.value in
    let reset = reset_everywhere eq node.direct node.edges m (g.G.TCGraph.found c.reset_all.new.nodes) c.deref.result.now (λ q. ap (λ ys. is_member eq ys q) here ∙ c.in_ok-listed.ensures q) c.in_ok-reset_all.ensures.reset c.in_ok-reset_all.ensures.others in
    let is = c.in-Ok.ensures.edges a b in
    (λ h. Reaches-more (λ x y k. sym (reset x y) ∙ k) (is.0 h), λ r. is.1 (Reaches-more (λ x y k. reset x y ∙ k) r))

pub returns-in-Ok-clause-acyclic : goal.returns-in-Ok-clause-acyclic
returns-in-Ok-clause-acyclic g c = λ dag a r.
    let eq = g.K.PartialEq.eq in
    let node = g.V.TCNode in
    let m = g.G.TCGraph.found c.args.nodes.now in
    let here = c.deref.ensures.value in
    let reset = reset_everywhere eq node.direct node.edges m (g.G.TCGraph.found c.reset_all.new.nodes) c.deref.result.now (λ q. ap (λ ys. is_member eq ys q) here ∙ c.in_ok-listed.ensures q) c.in_ok-reset_all.ensures.reset c.in_ok-reset_all.ensures.others in
    c.in-Ok.ensures.acyclic dag a (Reaches-more (λ x y k. reset x y ∙ k) r)

pub returns-clause-refused : goal.returns-clause-refused
returns-clause-refused g c =
    let eq = g.K.PartialEq.eq in
    let node = g.V.TCNode in
    let m = g.G.TCGraph.found c.args.nodes.now in
    let here = c.deref.ensures.value in
    let reset = reset_everywhere eq node.direct node.edges m (g.G.TCGraph.found c.reset_all.new.nodes) c.deref.result.now (λ q. ap (λ ys. is_member eq ys q) here ∙ c.in_ok-listed.ensures q) c.in_ok-reset_all.ensures.reset c.in_ok-reset_all.ensures.others in
    IsTcRefusal-weaker c.args.enforce_dag (λ k. Reaches (HasEdge eq node.edges (g.G.TCGraph.found c.reset_all.new.nodes)) k k) (λ k. Reaches (HasEdge eq node.direct m) k k)
    (λ k r. Reaches-more (λ x y h. sym (reset x y) ∙ h) r) c.in-Err.refusal c.in-Err.ensures.refused

pub returns-in_err-reset_all-clause-left : goal.returns-in_err-reset_all-clause-left
returns-in_err-reset_all-clause-left g c =
    let eq = g.K.PartialEq.eq in
    let node = g.V.TCNode in
    let m = g.G.TCGraph.found c.args.nodes.now in
    on_err c.from_residual-in_err-reset_all.result
    (partly_reset eq (edges_at node.direct m) (edges_at node.edges m) (edges_at node.edges (g.G.TCGraph.found c.reset_all.new.nodes)) c.in_err-reset_all.ensures.left)

pub returns-clause-left : goal.returns-clause-left
returns-clause-left g c =
    let eq = g.K.PartialEq.eq in
    let node = g.V.TCNode in
    let m = g.G.TCGraph.found c.args.nodes.now in
    let here = c.deref.ensures.value in
    let reset = reset_everywhere eq node.direct node.edges m (g.G.TCGraph.found c.reset_all.new.nodes) c.deref.result.now (λ q. ap (λ ys. is_member eq ys q) here ∙ c.in_ok-listed.ensures q) c.in_ok-reset_all.ensures.reset c.in_ok-reset_all.ensures.others in
    partly_closed eq (edges_at node.direct m) (edges_at node.edges m) (edges_at node.edges (g.G.TCGraph.found c.compute_tc.new.nodes)) (edges_at node.edges (g.G.TCGraph.found c.reset_all.new.nodes))
    reset c.in-Err.ensures.left
