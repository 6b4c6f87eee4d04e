-- The principal decides alone.
use Rattle.std.proofs.Common.{Bool, Some, subst}
use Rattle.cedar_language.specs.Tree.{Principal, Resource, PrincipalSlot, ResourceSlot}
use Rattle.cedar_grammar.specs.Policy.{constraint_tree, action_tree}
use Rattle.cedar_evaluator.specs.Asking.{request_held}
use Rattle.cedar_policies.specs.Policies.{bindings_of, policy_syntax}
use Rattle.cedar_evaluator.specs.Scopes.{IsDecided}
use Rattle.cedar_evaluator.proofs.Scoped.{false_first}
use Rattle.cedar_evaluator.proofs.scopes.Scopes.hold_by_principal.Goals as goal

pub returns-in-Some-false : goal.returns-in-Some-false
returns-in-Some-false c = λ i store facts scopes has.
    let s = policy_syntax c.args.policy.now in
    let holds = request_held i (bindings_of c.args.policy.now) in
    let by_principal = constraint_tree Principal PrincipalSlot s.principal in
    let by_action = action_tree s.action in
    let by_resource = constraint_tree Resource ResourceSlot s.resource in
    false_first facts holds by_principal by_action by_resource
    (subst (λ (b : Bool). IsDecided facts holds by_principal (Some b)) c.in-Some-false.field-0-test (subst (IsDecided facts holds by_principal) c.in-Some-false.is (c.principal_meets.ensures i store facts scopes has)))
