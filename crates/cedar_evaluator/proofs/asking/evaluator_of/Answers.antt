-- What is made answers for the request.
use Rattle.cedar_extensions.specs.Table.{as_table}
use Rattle.cedar_requests.specs.Holding.{request_parts}
use Rattle.cedar_evaluator.proofs.Asked.{answers_request}
use Rattle.cedar_evaluator.proofs.Responding.{if_ok}
use Rattle.cedar_evaluator.proofs.asking.evaluator_of.Goals as goal

pub returns : goal.returns
returns g c =
    let answers = g.F.ExtensionFunctionObject.answers in
    if_ok c.asked.result
    (answers_request (request_parts c.args.request.now) c.in_ok-asked.asked c.in_ok-asked.ensures answers c.args.entities.now (as_table answers c.args.extensions.now) c.args.depth)
    c.asked.ensures
