-- A clone of a key that reaches itself does too (Finding).
use Rattle.std.proofs.Common.{sym, ◌∙◌, true≢false}
use Rattle.cedar_closure.proofs.Finding.{finds_alike}
use Rattle.cedar_closure.proofs.closing.refuse_cycle.Goals as goal
use Rattle.cedar_closure.proofs.closing.refuse_cycle.Goals.{then-enforce_dag+in_default, else-enforce_dag}

pub returns-in-Some-clause-refused : goal.returns-in-Some-clause-refused
returns-in-Some-clause-refused g c =
    let x = c.in-Some.on_cycle.now in
    let k = c.in_ok-clone.field-0 in
    (c.if-enforce_dag.true, sym (finds_alike g.met.K.Eq.laws c.args.all.now x k (c.requires x k c.in_ok-clone.ensures.cases)) ∙ c.in-Some.ensures.found)

pub returns-clause-acyclic : goal.returns-clause-acyclic
returns-clause-acyclic g c = elim c.if-enforce_dag.branch [
  | then-enforce_dag+in_default w ↦ λ dag. w.in_default.ensures.none
  | else-enforce_dag w ↦ λ dag. absurd (true≢false (sym dag ∙ w.if-enforce_dag.false))
]
