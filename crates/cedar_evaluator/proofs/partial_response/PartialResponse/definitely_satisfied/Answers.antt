-- Two groups, one after the other.
use Rattle.std.proofs.Common.{List, ◌++◌, map, sym, ◌∙◌, ap}
use Rattle.cedar_policies.specs.declared.policies.Policy.{Policy}
use Rattle.cedar_policy_set.specs.Bounds.{policy_seen}
use Rattle.cedar_evaluator.proofs.Residuals.{left_when_satisfied, satisfied_permits_left, satisfied_forbids_left}
use Rattle.cedar_evaluator.proofs.partial_response.PartialResponse.definitely_satisfied.Goals as goal

pub returns : goal.returns
returns c =
    let r = c.args.self.now in
    c.in_ok-push_satisfied-2.ensures
    ∙ ap (λ l. l ++ satisfied_forbids_left r) (c.in_ok-push_satisfied.ensures ∙ ap (λ (l : List Policy). map policy_seen l ++ satisfied_permits_left r) c.new-policies.ensures.items)
    ∙ sym (left_when_satisfied r)
