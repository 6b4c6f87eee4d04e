-- The action decides, behind a principal that is told.
use Rattle.cedar_language.specs.Tree.{Principal, Resource, PrincipalSlot, ResourceSlot}
use Rattle.cedar_grammar.specs.Policy.{constraint_tree, action_tree}
use Rattle.cedar_evaluator.specs.Asking.{request_held}
use Rattle.cedar_policies.specs.Policies.{bindings_of, policy_syntax}
use Rattle.cedar_evaluator.proofs.Scoped.{false_second}
use Rattle.cedar_evaluator.proofs.scopes.Scopes.fail_for_action.Goals as goal

pub returns-then-is_principal_told : goal.returns-then-is_principal_told
returns-then-is_principal_told c = λ i store facts scopes has action.
    let s = policy_syntax c.args.policy.now in
    let holds = request_held i (bindings_of c.args.policy.now) in
    let by_principal = constraint_tree Principal PrincipalSlot s.principal in
    let by_action = action_tree s.action in
    let by_resource = constraint_tree Resource ResourceSlot s.resource in
    false_second facts holds by_principal by_action by_resource (c.is_principal_told.ensures i store facts scopes has c.if-is_principal_told.true) action
