-- What is found of the policies, and the response that this is.
use Rattle.cedar_evaluator.specs.Asking.{untold}
use Rattle.cedar_requests.specs.Holding.{request_parts}
use Rattle.cedar_evaluator.specs.Authorizing.{table_of, limit_of}
use Rattle.cedar_evaluator.proofs.ByRules.{answers_by_rules}
use Rattle.cedar_evaluator.proofs.Responding.{if_ok, if_ok_both}
use Rattle.cedar_evaluator.proofs.authorizer.Authorizer.is_authorized.Goals as goal

pub returns-clause-answers : goal.returns-clause-answers
returns-clause-answers g c =
    if_ok_both c.concretize.result
    (λ whole concrete causes. record { partial = c.in_ok-partial.partial; responds = c.in_ok-partial.ensures; concrete = record { concrete = concrete; causes = causes } })
    c.concretize.ensures.concrete c.concretize.ensures.causes

pub returns-clause-means : goal.returns-clause-means
returns-clause-means g c =
    if_ok c.concretize.result
    (answers_by_rules c.leaves_dont_matter.ensures c.known_is_meaning.ensures (untold (request_parts c.args.request)) c.args.entities.now (table_of g.F.ExtensionFunctionObject.answers c.args.self.now) (limit_of c.args.self.now)
    c.args.policies.now c.in_ok-partial.partial c.in_ok-partial.ensures)
    c.concretize.ensures.concrete
