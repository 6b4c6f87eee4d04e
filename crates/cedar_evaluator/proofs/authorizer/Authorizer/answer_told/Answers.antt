-- The evaluator is one of the request of which these values are told.
use Rattle.std.proofs.Common.{refl}
use Rattle.cedar_evaluator.specs.Asking.{Inquiry, variable_asked}
use Rattle.cedar_requests.specs.Holding.{request_parts}
use Rattle.cedar_substitution.specs.Told.{told_for}
use Rattle.cedar_interpreter.specs.Asking.{nothing_told}
use Rattle.cedar_evaluator.specs.Authorizing.{table_of, limit_of}
use Rattle.cedar_evaluator.proofs.Responding.{if_ok}
use Rattle.cedar_evaluator.proofs.authorizer.Authorizer.answer_told.Goals as goal

pub returns : goal.returns
returns g c =
    let i : Inquiry = record { request = request_parts c.args.request; told = told_for c.args.told.now.entries } in
    let store = c.args.entities.now in
    let table = table_of g.F.ExtensionFunctionObject.answers c.args.self.now in
    let depth = limit_of c.args.self.now in
    if_ok c.responded.result
    (λ response by. by i store table depth refl (c.with_told-evaluator.ensures (variable_asked (request_parts c.args.request)) nothing_told store table depth c.in_ok-evaluator.ensures)) c.responded.ensures
