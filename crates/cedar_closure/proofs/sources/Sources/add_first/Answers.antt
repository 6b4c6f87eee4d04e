-- A set of one source stands at the target (Turned).
use Rattle.cedar_closure.proofs.Refusal.{on_err}
use Rattle.cedar_closure.proofs.Turned.{same_edges, edge_added, set_first}
use Rattle.cedar_closure.proofs.sources.Sources.add_first.Goals as goal

pub returns-in_err-insert-2-clause-kept : goal.returns-in_err-insert-2-clause-kept
returns-in_err-insert-2-clause-kept g c = on_err c.from_residual-in_err-insert-2.result (same_edges g.K.Ord.cmp c.args.self.now (record { by_target = c.insert-2.new.self }) c.in_err-insert-2.ensures.err)

pub returns-clause-added : goal.returns-clause-added
returns-clause-added g c =
    let laws = g.met.K.Eq.laws in
    let total = g.met.K.Ord.total in
    let ties = g.met.K.Ord.matches_eq in
    let target = c.args.target.now in
    let at = c.in_ok-target.target in
    edge_added laws total ties c.args.self.now (record { by_target = c.insert-2.new.self }) target at c.args.source c.insert.new.self (c.requires.clones target at c.in_ok-target.ensures.cases) c.in_ok-insert-2.ensures.updates.0
    (set_first laws total ties c.args.self.now target c.args.source c.new-sources.result c.insert.new.self c.new-sources.ensures.empty c.requires.none c.in_ok-insert.ensures.updates.0)
