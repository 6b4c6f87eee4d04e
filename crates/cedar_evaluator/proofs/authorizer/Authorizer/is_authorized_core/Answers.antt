-- The evaluator is one of the request of which nothing is told.
use Rattle.std.proofs.Common.{refl}
use Rattle.cedar_evaluator.specs.Asking.{untold}
use Rattle.cedar_requests.specs.Holding.{request_parts}
use Rattle.cedar_evaluator.specs.Authorizing.{table_of, limit_of}
use Rattle.cedar_evaluator.proofs.Responding.{if_ok}
use Rattle.cedar_evaluator.proofs.authorizer.Authorizer.is_authorized_core.Goals as goal

pub returns : goal.returns
returns g c =
    let i = untold (request_parts c.args.request) in
    let store = c.args.entities.now in
    let table = table_of g.F.ExtensionFunctionObject.answers c.args.self.now in
    let depth = limit_of c.args.self.now in
    if_ok c.responded.result
    (λ response by. by i store table depth refl c.in_ok-evaluator.ensures) c.responded.ensures
