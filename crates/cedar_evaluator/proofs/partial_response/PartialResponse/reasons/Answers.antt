-- The groups of forbids are asked whether they have a policy.
use Rattle.std.proofs.Common.{true, false, ◌||◌, sym, ◌∙◌, ap}
use Rattle.cedar_evaluator.specs.Deciding.{has_any}
use Rattle.cedar_evaluator.proofs.Concrete.{any_told}
use Rattle.cedar_evaluator.proofs.Reading.{must_in}
use Rattle.cedar_evaluator.proofs.Responding.{if_ok}
use Rattle.cedar_evaluator.proofs.partial_response.PartialResponse.reasons.Goals as goal
use Rattle.cedar_evaluator.proofs.partial_response.PartialResponse.reasons.Goals.{else-is_empty-via-then-is_empty+else-is_empty-2, else-is_empty-via-else-is_empty}

pub returns-then-is_empty-2 : goal.returns-then-is_empty-2
returns-then-is_empty-2 c =
    let r = c.args.self.now in
    let none = any_told _ true r.satisfied_forbids c.is_empty.ensures c.if-is_empty.true in
    let none_open = any_told _ true r.residual_forbids c.is_empty-then-is_empty.ensures c.if-is_empty-2.true in
    if_ok c.key_set.result (λ ids are. are ∙ sym (must_in r false (λ i. sym none i || sym none_open i))) c.key_set.ensures

pub returns-else-is_empty : goal.returns-else-is_empty
returns-else-is_empty c =
    let r = c.args.self.now in
    elim c.else-is_empty.branch [
      | else-is_empty-via-then-is_empty+else-is_empty-2 w ↦
          let none = any_told _ true r.satisfied_forbids c.is_empty.ensures w.if-is_empty.true in
          let some_open = any_told _ false r.residual_forbids w.is_empty-then-is_empty.ensures w.if-is_empty-2.false in
          if_ok c.key_set-else-is_empty.result (λ ids are. are ∙ sym (must_in r true (λ i. sym none i || sym some_open i))) c.key_set-else-is_empty.ensures
      | else-is_empty-via-else-is_empty w ↦
          let some = any_told _ false r.satisfied_forbids c.is_empty.ensures w.if-is_empty.false in
          if_ok c.key_set-else-is_empty.result (λ ids are. are ∙ sym (must_in r true (ap (λ b. b || has_any r.residual_forbids) (sym some)))) c.key_set-else-is_empty.ensures
    ]
