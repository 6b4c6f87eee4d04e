-- The groups of forbids are asked whether they have a policy.
use Rattle.std.proofs.Common.{◌≡◌, true, false, List, ◌++◌, map, refl, sym, ◌∙◌, ap}
use Rattle.std.specs.Vec.{vec_items}
use Rattle.cedar_language.specs.Answering.{in_must}
use Rattle.cedar_policies.specs.declared.policies.Policy.{Policy}
use Rattle.cedar_policy_set.specs.Bounds.{policy_seen}
use Rattle.cedar_evaluator.specs.Deciding.{has_any}
use Rattle.cedar_evaluator.specs.Holding.{holding_in}
use Rattle.cedar_evaluator.specs.Residuals.{residuals_with}
use Rattle.cedar_evaluator.specs.Responses.{judged_held}
use Rattle.cedar_evaluator.proofs.Concrete.{any_told}
use Rattle.cedar_evaluator.proofs.Residuals.{left_must, satisfied_permits_left, satisfied_forbids_left}
use Rattle.cedar_evaluator.proofs.partial_response.PartialResponse.must_be_determining.Goals as goal
use Rattle.cedar_evaluator.proofs.partial_response.PartialResponse.must_be_determining.Goals.{then-is_empty+then-is_empty-2+in_ok-push_satisfied, else-is_empty+in_ok-push_satisfied-2, else-is_empty-via-then-is_empty+else-is_empty-2, else-is_empty-via-else-is_empty}

pub returns : goal.returns
returns c =
    let r = c.args.self.now in
    let forbids = r.satisfied_forbids in
    let opens = r.residual_forbids in
    elim c.if-is_empty.branch [
      | then-is_empty+then-is_empty-2+in_ok-push_satisfied w ↦
          ap (map policy_seen) (ap vec_items w.policies-is)
          ∙ w.in_ok-push_satisfied.ensures
          ∙ ap (λ (l : List Policy). map policy_seen l ++ satisfied_permits_left r) c.new-policies.ensures.items
          ∙ sym (left_must r false false (any_told _ true forbids c.is_empty.ensures w.if-is_empty.true) (any_told _ true opens w.is_empty-then-is_empty.ensures w.if-is_empty-2.true))
      | else-is_empty+in_ok-push_satisfied-2 w ↦
          let are_forbids : residuals_with (in_must (judged_held (holding_in r))) r ≡ satisfied_forbids_left r = elim w.else-is_empty.branch [
            | else-is_empty-via-then-is_empty+else-is_empty-2 v ↦
                left_must r false true (any_told _ true forbids c.is_empty.ensures v.if-is_empty.true) (any_told _ false opens v.is_empty-then-is_empty.ensures v.if-is_empty-2.false)
            | else-is_empty-via-else-is_empty v ↦
                left_must r true (has_any opens) (any_told _ false forbids c.is_empty.ensures v.if-is_empty.false) refl
          ] in
          ap (map policy_seen) (ap vec_items w.policies-is)
          ∙ w.in_ok-push_satisfied-2.ensures
          ∙ ap (λ (l : List Policy). map policy_seen l ++ satisfied_forbids_left r) c.new-policies.ensures.items
          ∙ sym are_forbids
    ]
