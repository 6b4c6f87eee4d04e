-- The groups of satisfied policies are asked whether they have one.
use Rattle.std.proofs.Common.{true, false, refl}
use Rattle.cedar_evaluator.specs.Deciding.{has_any}
use Rattle.cedar_evaluator.proofs.Concrete.{any_told, known_in}
use Rattle.cedar_evaluator.proofs.partial_response.PartialResponse.concrete_decision.Goals as goal
use Rattle.cedar_evaluator.proofs.partial_response.PartialResponse.concrete_decision.Goals.{else-is_empty-via-then-is_empty+else-not-is_empty, else-is_empty-via-else-is_empty}

pub returns-then-not-is_empty : goal.returns-then-not-is_empty
returns-then-not-is_empty c =
    let r = c.args.self.now in
    known_in r false true (any_told _ true r.satisfied_forbids c.is_empty.ensures c.if-is_empty.true) (any_told _ false r.satisfied_permits c.is_empty-then-is_empty.ensures c.if-not-is_empty.true)

pub returns-else-is_empty : goal.returns-else-is_empty
returns-else-is_empty c =
    let r = c.args.self.now in
    elim c.else-is_empty.branch [
      | else-is_empty-via-then-is_empty+else-not-is_empty w ↦
          known_in r false false (any_told _ true r.satisfied_forbids c.is_empty.ensures w.if-is_empty.true) (any_told _ true r.satisfied_permits w.is_empty-then-is_empty.ensures w.if-not-is_empty.false)
      | else-is_empty-via-else-is_empty w ↦ known_in r true (has_any r.satisfied_permits) (any_told _ false r.satisfied_forbids c.is_empty.ensures w.if-is_empty.false) refl
    ]
