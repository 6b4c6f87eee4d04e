-- What the scope asks of the action.
use Rattle.std.proofs.Common.{subst}
use Rattle.cedar_grammar.specs.Policy.{ActionConstraint, action_tree}
use Rattle.cedar_evaluator.specs.Asking.{request_held}
use Rattle.cedar_policies.specs.Policies.{bindings_of}
use Rattle.cedar_evaluator.specs.Scopes.{IsDecided}
use Rattle.cedar_evaluator.proofs.scopes.Scopes.action_meets.Goals as goal

pub returns : goal.returns
returns c = λ i store facts scopes has.
    let holds = request_held i (bindings_of c.args.policy.now) in
    subst (λ (a : ActionConstraint). IsDecided facts holds (action_tree a) c.action_meets.result) c.action_constraint.ensures
    (c.action_meets.ensures facts store holds has scopes.action)
