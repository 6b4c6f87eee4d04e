-- Six groups, one after the other.
use Rattle.std.proofs.Common.{List, ◌++◌, map, sym, ◌∙◌, ap}
use Rattle.cedar_policies.specs.declared.policies.Policy.{Policy}
use Rattle.cedar_policy_set.specs.Bounds.{policy_seen}
use Rattle.cedar_evaluator.proofs.Residuals.{left_all, satisfied_permits_left, false_permits_left, open_permits_left, satisfied_forbids_left, false_forbids_left, open_forbids_left}
use Rattle.cedar_evaluator.proofs.partial_response.PartialResponse.all_residuals.Goals as goal

pub returns : goal.returns
returns c =
    let r = c.args.self.now in
    let first = c.in_ok-push_satisfied.ensures ∙ ap (λ (l : List Policy). map policy_seen l ++ satisfied_permits_left r) c.new-policies.ensures.items in
    let permits = c.in_ok-push_open.ensures ∙ ap (λ l. l ++ open_permits_left r) (c.in_ok-push_false.ensures ∙ ap (λ l. l ++ false_permits_left r) first) in
    c.in_ok-push_open-2.ensures
    ∙ ap (λ l. l ++ open_forbids_left r) (c.in_ok-push_false-2.ensures ∙ ap (λ l. l ++ false_forbids_left r) (c.in_ok-push_satisfied-2.ensures ∙ ap (λ l. l ++ satisfied_forbids_left r) permits))
    ∙ sym (left_all r)
