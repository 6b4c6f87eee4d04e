-- The open forbids go last, after those that the satisfied forbids decide on.
use Rattle.std.proofs.Common.{true, false, List, ◌++◌, map, sym, ◌∙◌, ap}
use Rattle.std.specs.Vec.{vec_items}
use Rattle.cedar_policies.specs.declared.policies.Policy.{Policy}
use Rattle.cedar_policy_set.specs.Bounds.{policy_seen}
use Rattle.cedar_evaluator.proofs.Concrete.{any_told}
use Rattle.cedar_evaluator.proofs.Residuals.{left_may, satisfied_permits_left, open_permits_left, satisfied_forbids_left, open_forbids_left}
use Rattle.cedar_evaluator.proofs.partial_response.PartialResponse.may_be_determining.Goals as goal
use Rattle.cedar_evaluator.proofs.partial_response.PartialResponse.may_be_determining.Goals.{then-is_empty+in_ok-push_satisfied+in_ok-push_open, else-is_empty+in_ok-push_satisfied-2}

pub returns : goal.returns
returns c =
    let r = c.args.self.now in
    let forbids = r.satisfied_forbids in
    c.in_ok-push_open-2.ensures ∙ elim c.if-is_empty.branch [
      | then-is_empty+in_ok-push_satisfied+in_ok-push_open w ↦
          let first = w.in_ok-push_satisfied.ensures ∙ ap (λ (l : List Policy). map policy_seen l ++ satisfied_permits_left r) c.new-policies.ensures.items in
          ap (λ (l : List Policy). map policy_seen l ++ open_forbids_left r) (ap vec_items w.policies-is)
          ∙ ap (λ l. l ++ open_forbids_left r) (w.in_ok-push_open.ensures ∙ ap (λ l. l ++ open_permits_left r) first)
          ∙ sym (left_may r false (any_told _ true forbids c.is_empty.ensures w.if-is_empty.true))
      | else-is_empty+in_ok-push_satisfied-2 w ↦
          ap (λ (l : List Policy). map policy_seen l ++ open_forbids_left r) (ap vec_items w.policies-is)
          ∙ ap (λ l. l ++ open_forbids_left r) (w.in_ok-push_satisfied-2.ensures ∙ ap (λ (l : List Policy). map policy_seen l ++ satisfied_forbids_left r) c.new-policies.ensures.items)
          ∙ sym (left_may r true (any_told _ false forbids c.is_empty.ensures w.if-is_empty.false))
    ]
