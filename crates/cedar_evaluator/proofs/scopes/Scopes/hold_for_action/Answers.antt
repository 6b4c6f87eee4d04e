-- The principal decides, or the resource behind it.
use Rattle.std.proofs.Common.{Bool, true, Some, subst}
use Rattle.cedar_language.specs.Tree.{Principal, Resource, PrincipalSlot, ResourceSlot}
use Rattle.cedar_grammar.specs.Build.{conjunction}
use Rattle.cedar_grammar.specs.Policy.{constraint_tree, action_tree}
use Rattle.cedar_evaluator.specs.Asking.{request_held}
use Rattle.cedar_policies.specs.Policies.{bindings_of, policy_syntax}
use Rattle.cedar_evaluator.specs.Scopes.{IsDecided}
use Rattle.cedar_evaluator.proofs.Scoped.{both_decided, false_first}
use Rattle.cedar_evaluator.proofs.scopes.Scopes.hold_for_action.Goals as goal

pub returns-in-Some-true : goal.returns-in-Some-true
returns-in-Some-true c = λ i store facts scopes has action.
    let s = policy_syntax c.args.policy.now in
    let holds = request_held i (bindings_of c.args.policy.now) in
    let by_principal = constraint_tree Principal PrincipalSlot s.principal in
    let by_action = action_tree s.action in
    let by_resource = constraint_tree Resource ResourceSlot s.resource in
    let principal = subst (λ (b : Bool). IsDecided facts holds by_principal (Some b)) c.in-Some-true.field-0-test (subst (IsDecided facts holds by_principal) c.in-Some-true.is (c.principal_meets.ensures i store facts scopes has)) in
    both_decided facts holds (conjunction by_principal by_action) by_resource (Some true) c.resource_meets.result
    (both_decided facts holds by_principal by_action (Some true) (Some true) principal action) (c.resource_meets.ensures i store facts scopes has)

pub returns-in-Some-false : goal.returns-in-Some-false
returns-in-Some-false c = λ i store facts scopes has action.
    let s = policy_syntax c.args.policy.now in
    let holds = request_held i (bindings_of c.args.policy.now) in
    let by_principal = constraint_tree Principal PrincipalSlot s.principal in
    let by_action = action_tree s.action in
    let by_resource = constraint_tree Resource ResourceSlot s.resource in
    false_first facts holds by_principal by_action by_resource
    (subst (λ (b : Bool). IsDecided facts holds by_principal (Some b)) c.in-Some-false.field-0-test (subst (IsDecided facts holds by_principal) c.in-Some-false.is (c.principal_meets.ensures i store facts scopes has)))
