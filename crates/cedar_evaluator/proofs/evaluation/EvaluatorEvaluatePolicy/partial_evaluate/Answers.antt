-- What is answered of the condition that is made, which is the policy's.
use Rattle.cedar_policies.specs.Policies.{bindings_of}
use Rattle.cedar_trees.specs.Bare.{bare}
use Rattle.cedar_evaluator.specs.Evaluating.{condition_of}
use Rattle.cedar_evaluator.proofs.Evaluated.{judged_so, limited_so, limited_named_so, judged_read_so, limited_read_so}
use Rattle.cedar_evaluator.proofs.evaluation.EvaluatorEvaluatePolicy.partial_evaluate.Goals as goal

pub returns-clause-found : goal.returns-clause-found
returns-clause-found g c =
    let p = c.args.policy.now in
    judged_so g.F.ExtensionFunctionObject.answers c.args.self.now (bare c.in_ok-condition.condition) (condition_of p) c.in_ok-condition.ensures c.env.result.now (bindings_of p) c.env.ensures.bindings
    c.partial_interpret-answer.result c.judged.result c.partial_interpret-answer.ensures.found c.judged.ensures.found

pub returns-clause-limit : goal.returns-clause-limit
returns-clause-limit g c =
    let p = c.args.policy.now in
    limited_so g.F.ExtensionFunctionObject.answers c.args.self.now (bare c.in_ok-condition.condition) (condition_of p) c.in_ok-condition.ensures c.env.result.now (bindings_of p) c.env.ensures.bindings
    c.partial_interpret-answer.result c.judged.result c.partial_interpret-answer.ensures.limit c.judged.ensures.limit

pub returns-clause-read : goal.returns-clause-read
returns-clause-read g c =
    let p = c.args.policy.now in
    judged_read_so g.F.ExtensionFunctionObject.answers c.args.self.now (bare c.in_ok-condition.condition) (condition_of p) c.in_ok-condition.ensures c.env.result.now (bindings_of p) c.env.ensures.bindings
    c.unknowns_are_read.ensures c.args.self.now.extensions.now.named c.partial_interpret-answer.result c.judged.result c.partial_interpret-answer.ensures.named c.judged.ensures.found

pub returns-clause-read_limit : goal.returns-clause-read_limit
returns-clause-read_limit g c =
    let p = c.args.policy.now in
    limited_read_so g.F.ExtensionFunctionObject.answers c.args.self.now (bare c.in_ok-condition.condition) (condition_of p) c.in_ok-condition.ensures c.env.result.now (bindings_of p) c.env.ensures.bindings
    c.partial_interpret-answer.result c.judged.result c.partial_interpret-answer.ensures.read_limit c.judged.ensures.limit

pub returns-clause-named_limit : goal.returns-clause-named_limit
returns-clause-named_limit g c =
    let p = c.args.policy.now in
    limited_named_so g.F.ExtensionFunctionObject.answers c.args.self.now (bare c.in_ok-condition.condition) (condition_of p) c.in_ok-condition.ensures c.env.result.now (bindings_of p) c.env.ensures.bindings
    c.partial_interpret-answer.result c.judged.result c.partial_interpret-answer.ensures.named_limit c.judged.ensures.limit
