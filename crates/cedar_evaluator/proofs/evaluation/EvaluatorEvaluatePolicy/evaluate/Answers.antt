-- What is answered of the condition that is made, which is the policy's.
use Rattle.cedar_policies.specs.Policies.{bindings_of}
use Rattle.cedar_trees.specs.Bare.{bare}
use Rattle.cedar_evaluator.specs.Evaluating.{condition_of}
use Rattle.cedar_evaluator.proofs.Evaluated.{meant_so, found_so, limited_so, limited_named_so, found_read_so, limited_read_so}
use Rattle.cedar_evaluator.proofs.evaluation.EvaluatorEvaluatePolicy.evaluate.Goals as goal

pub returns-clause-means : goal.returns-clause-means
returns-clause-means g c =
    let p = c.args.policy.now in
    meant_so g.F.ExtensionFunctionObject.answers c.args.self.now (bare c.in_ok-condition.condition) (condition_of p) c.in_ok-condition.ensures c.env.result.now (bindings_of p) c.env.ensures.bindings
    c.interpret-answer.result c.tested.result c.interpret-answer.ensures.means c.tested.ensures.means

pub returns-clause-found : goal.returns-clause-found
returns-clause-found g c =
    let p = c.args.policy.now in
    found_so g.F.ExtensionFunctionObject.answers c.args.self.now (bare c.in_ok-condition.condition) (condition_of p) c.in_ok-condition.ensures c.env.result.now (bindings_of p) c.env.ensures.bindings
    c.interpret-answer.result c.tested.result c.interpret-answer.ensures.found c.tested.ensures.found

pub returns-clause-limit : goal.returns-clause-limit
returns-clause-limit g c =
    let p = c.args.policy.now in
    limited_so g.F.ExtensionFunctionObject.answers c.args.self.now (bare c.in_ok-condition.condition) (condition_of p) c.in_ok-condition.ensures c.env.result.now (bindings_of p) c.env.ensures.bindings
    c.interpret-answer.result c.tested.result c.interpret-answer.ensures.limit c.tested.ensures.limit

pub returns-clause-read : goal.returns-clause-read
returns-clause-read g c =
    let p = c.args.policy.now in
    found_read_so g.F.ExtensionFunctionObject.answers c.args.self.now (bare c.in_ok-condition.condition) (condition_of p) c.in_ok-condition.ensures c.env.result.now (bindings_of p) c.env.ensures.bindings
    c.interpret-answer.result c.tested.result c.interpret-answer.ensures.read c.tested.ensures.found

pub returns-clause-read_limit : goal.returns-clause-read_limit
returns-clause-read_limit g c =
    let p = c.args.policy.now in
    limited_read_so g.F.ExtensionFunctionObject.answers c.args.self.now (bare c.in_ok-condition.condition) (condition_of p) c.in_ok-condition.ensures c.env.result.now (bindings_of p) c.env.ensures.bindings
    c.interpret-answer.result c.tested.result c.interpret-answer.ensures.read_limit c.tested.ensures.limit

pub returns-clause-named_limit : goal.returns-clause-named_limit
returns-clause-named_limit g c =
    let p = c.args.policy.now in
    limited_named_so g.F.ExtensionFunctionObject.answers c.args.self.now (bare c.in_ok-condition.condition) (condition_of p) c.in_ok-condition.ensures c.env.result.now (bindings_of p) c.env.ensures.bindings
    c.interpret-answer.result c.tested.result c.interpret-answer.ensures.named_limit c.tested.ensures.limit
