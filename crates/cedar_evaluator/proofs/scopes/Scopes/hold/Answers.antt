-- What is told of the action, and what is shown of each case.
use Rattle.std.proofs.Common.{Bool, Some, subst}
use Rattle.cedar_grammar.specs.Policy.{action_tree}
use Rattle.cedar_evaluator.specs.Asking.{request_held}
use Rattle.cedar_policies.specs.Policies.{bindings_of, policy_syntax}
use Rattle.cedar_evaluator.specs.Scopes.{IsDecided}
use Rattle.cedar_evaluator.proofs.scopes.Scopes.hold.Goals as goal

pub returns-in-Some-true : goal.returns-in-Some-true
returns-in-Some-true c = λ i store facts scopes has.
    let holds = request_held i (bindings_of c.args.policy.now) in
    let by_action = action_tree (policy_syntax c.args.policy.now).action in
    c.hold_for_action.ensures i store facts scopes has
    (subst (λ (b : Bool). IsDecided facts holds by_action (Some b)) c.in-Some-true.field-0-test (subst (IsDecided facts holds by_action) c.in-Some-true.is (c.action_meets.ensures i store facts scopes has)))

pub returns-in-Some-false : goal.returns-in-Some-false
returns-in-Some-false c = λ i store facts scopes has.
    let holds = request_held i (bindings_of c.args.policy.now) in
    let by_action = action_tree (policy_syntax c.args.policy.now).action in
    c.fail_for_action.ensures i store facts scopes has
    (subst (λ (b : Bool). IsDecided facts holds by_action (Some b)) c.in-Some-false.field-0-test (subst (IsDecided facts holds by_action) c.in-Some-false.is (c.action_meets.ensures i store facts scopes has)))
