use Rattle.std.proofs.Common.{IsTrue, drop}
use Rattle.cedar_closure.specs.Found.{finds}
use Rattle.cedar_closure.proofs.closing.find_cycle.Given as goal

abbrev pub invariant-loop-reached : goal.invariant-loop-reached
invariant-loop-reached g l =
    let eq = g.K.PartialEq.eq in
    (a : g.row.K.Denot) → IsTrue (finds eq l.all a a) → IsTrue (finds eq (drop l.reached-index l.all) a a)
