-- The last place that stands there or before is the one that stands there (Closing).
use Rattle.std.proofs.Common.{◌≡◌, ◌+◌, ◌<◌, length, sym, subst, arith}
use Rattle.cedar_policy_set.specs.ClosedPlaces.{position_of}
use Rattle.cedar_policy_set.proofs.Closing.{last_there, behind_all}
use Rattle.cedar_policy_set.proofs.gaps.Gaps.place.Goals as goal

pub returns-then-position-clause-next : goal.returns-then-position-clause-next
returns-then-position-clause-next c =
    let gs = c.args.self.now.taken.items in
    let p = c.args.position in
    let len : c.len.result ≡ length gs = omega (arith, c.len.ensures, c.args.self.now.taken.ok.0) in
    let behind : p < position_of gs (p + c.len.result + 1) = subst (λ n. p < position_of gs (p + n + 1)) (sym len) (behind_all gs p) in
    let at = c.if-position.true in
    let own = c.position.ensures in
    (last_there gs (p + c.len.result) p (omega arith) behind).next

pub returns-clause-here : goal.returns-clause-here
returns-clause-here c =
    let gs = c.args.self.now.taken.items in
    let apart = c.loop-high.invariant.apart in
    let ended = c.loop-high-test.false in
    let next : c.loop-high.low + 1 ≡ c.loop-high.high = omega arith in
    (last_there gs c.loop-high.low c.args.position c.loop-high.invariant.before (subst (λ n. c.args.position < position_of gs n) (sym next) c.loop-high.invariant.behind)).here

pub returns-clause-next : goal.returns-clause-next
returns-clause-next c =
    let gs = c.args.self.now.taken.items in
    let apart = c.loop-high.invariant.apart in
    let ended = c.loop-high-test.false in
    let next : c.loop-high.low + 1 ≡ c.loop-high.high = omega arith in
    (last_there gs c.loop-high.low c.args.position c.loop-high.invariant.before (subst (λ n. c.args.position < position_of gs n) (sym next) c.loop-high.invariant.behind)).next
