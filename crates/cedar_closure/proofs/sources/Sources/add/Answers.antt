-- One more source in the set of the target, where it has one (Turned).
use Rattle.std.proofs.Common.{ap, sym, ◌∙◌, is_some}
use Rattle.cedar_closure.specs.Sources.{has_source}
use Rattle.cedar_closure.proofs.Refusal.{on_err}
use Rattle.cedar_closure.proofs.Turned.{edge_added, edge_kept, set_added, no_sources_at}
use Rattle.cedar_closure.proofs.sources.Sources.add.Goals as goal

pub returns-in_err-insert-in-Some-clause-kept : goal.returns-in_err-insert-in-Some-clause-kept
returns-in_err-insert-in-Some-clause-kept g c =
    let w = c.insert.new.self in
    on_err c.from_residual-in_err-insert-in-Some.result
    (edge_kept g.met.K.Eq.laws g.met.K.Ord.total g.met.K.Ord.matches_eq c.args.self.now (record { by_target = c.get_mut.follows.lender w }) c.args.target.now c.in-Some.sources.now w c.in-Some.ensures.value c.in_err-insert-in-Some.ensures.err
    ((c.get_mut.follows.holds w).3 (ap is_some (sym c.in-Some.ensures.value))).0)

pub add_first-requires-clause-none : goal.add_first-requires-clause-none
add_first-requires-clause-none g c = λ s.
    ap (λ m. has_source g.K.Ord.cmp (record { by_target = m }) c.args.target.now s) c.get_mut.follows.holds-at-none
    ∙ no_sources_at g.K.Ord.cmp c.args.self.now c.args.target.now c.in-None.ensures.value s

pub returns-in_ok-insert-in-Some-clause-added : goal.returns-in_ok-insert-in-Some-clause-added
returns-in_ok-insert-in-Some-clause-added g c =
    let laws = g.met.K.Eq.laws in
    let total = g.met.K.Ord.total in
    let ties = g.met.K.Ord.matches_eq in
    let target = c.args.target.now in
    let source = c.args.source.now in
    let key = c.in_ok-source.source in
    let w = c.insert.new.self in
    edge_added laws total ties c.args.self.now (record { by_target = c.get_mut.follows.lender w }) target target source w (laws.refl target)
    ((c.get_mut.follows.holds w).3 (ap is_some (sym c.in-Some.ensures.value))).0
    (set_added laws total ties c.args.self.now target source key c.in-Some.sources.now w c.in-Some.ensures.value (c.requires source key c.in_ok-source.ensures.cases) c.in_ok-insert-in-Some.ensures.updates.0)
