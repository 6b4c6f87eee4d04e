-- One source less in the set of the target, which goes where none is left (Turned).
use Rattle.std.proofs.Common.{ap, sym, ◌∙◌, is_some}
use Rattle.cedar_closure.specs.Sources.{has_source}
use Rattle.cedar_closure.proofs.Turned.{edge_missing, edge_removed, set_removed, target_emptied, empty_at, none_left}
use Rattle.cedar_closure.proofs.sources.Sources.remove.Goals as goal

pub returns-in_default : goal.returns-in_default
returns-in_default g c = λ t s.
    ap (λ m. has_source g.K.Ord.cmp (record { by_target = m }) t s) c.get_mut.follows.holds-at-none
    ∙ edge_missing g.met.K.Eq.laws g.met.K.Ord.total g.met.K.Ord.matches_eq c.args.self.now c.args.target.now c.args.source.now c.in_default.ensures.value t s

pub returns-then-is_empty : goal.returns-then-is_empty
returns-then-is_empty g c = λ t s.
    let laws = g.met.K.Eq.laws in
    let total = g.met.K.Ord.total in
    let ties = g.met.K.Ord.matches_eq in
    let old = c.args.self.now in
    let target = c.args.target.now in
    let source = c.args.source.now in
    let w = c.remove.new.self in
    let after = (c.get_mut.follows.holds w).3 (ap is_some (sym c.in-Some.ensures.value)) in
    target_emptied laws total ties (record { by_target = c.get_mut.follows.lender w }) (record { by_target = c.remove-then-is_empty.new.self }) target
    (empty_at g.K.Ord.cmp (record { by_target = c.get_mut.follows.lender w }) target w after.1 (none_left w.keys (c.is_empty.ensures.0 c.if-is_empty.true)))
    c.remove-then-is_empty.ensures.updates.0 t s
    ∙ edge_removed laws total ties old (record { by_target = c.get_mut.follows.lender w }) target source w after.0
    (set_removed laws total ties old target source c.in-Some.sources.now w c.in-Some.ensures.value c.remove.ensures.updates.0) t s

pub returns-else-is_empty : goal.returns-else-is_empty
returns-else-is_empty g c =
    let laws = g.met.K.Eq.laws in
    let total = g.met.K.Ord.total in
    let ties = g.met.K.Ord.matches_eq in
    let old = c.args.self.now in
    let target = c.args.target.now in
    let source = c.args.source.now in
    let w = c.remove.new.self in
    let after = (c.get_mut.follows.holds w).3 (ap is_some (sym c.in-Some.ensures.value)) in
    edge_removed laws total ties old (record { by_target = c.get_mut.follows.lender w }) target source w after.0
    (set_removed laws total ties old target source c.in-Some.sources.now w c.in-Some.ensures.value c.remove.ensures.updates.0)
