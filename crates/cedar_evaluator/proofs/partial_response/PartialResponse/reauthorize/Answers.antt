-- The policies that are left, the request with what is told of it, and the response to both.
use Rattle.std.proofs.Common.{subst}
use Rattle.std.proofs.lemmas.Result.{err_from_is_err_and}
use Rattle.cedar_requests.specs.Holding.{request_parts}
use Rattle.cedar_requests.specs.declared.requests.Request.{Request}
use Rattle.cedar_evaluator.specs.Authorizing.{table_of, limit_of}
use Rattle.cedar_evaluator.specs.Concretizing.{IsConcreteRequest, IsRefused}
use Rattle.cedar_evaluator.proofs.Again.{reauthorized, no_set, no_request}
use Rattle.cedar_evaluator.proofs.partial_response.PartialResponse.reauthorize.Goals as goal

pub returns-in_err-policies : goal.returns-in_err-policies
returns-in_err-policies g c =
    let p = err_from_is_err_and c.from_residual.result c.from_residual.ensures.1 in
    rw (p.1, p.2)
    (no_set c.args.entities.now (table_of g.F.ExtensionFunctionObject.answers c.args.authorizer.now) (limit_of c.args.authorizer.now) c.args.told.now.entries c.args.self.now c.in_err-policies.field-0.0 c.in_err-policies.ensures.refused)

pub returns-in_err-request : goal.returns-in_err-request
returns-in_err-request g c =
    let p = err_from_is_err_and c.from_residual-in_err-request.result c.from_residual-in_err-request.ensures.1 in
    rw (p.1, p.2)
    (no_request c.args.entities.now (table_of g.F.ExtensionFunctionObject.answers c.args.authorizer.now) (limit_of c.args.authorizer.now) c.args.told.now.entries c.args.self.now c.in_ok-policies.ensures.apart c.in_err-request.field-0.0
    (subst (λ (r : Request). IsRefused (table_of g.F.ExtensionFunctionObject.answers c.args.authorizer.now) (limit_of c.args.authorizer.now) c.args.told.now.entries (request_parts r) c.in_err-request.field-0.0) c.deref.ensures c.in_err-request.ensures))

pub returns : goal.returns
returns g c =
    reauthorized c.args.entities.now (table_of g.F.ExtensionFunctionObject.answers c.args.authorizer.now) (limit_of c.args.authorizer.now) c.args.told.now.entries c.args.self.now
    c.in_ok-answer_told.field-0 (request_parts c.in_ok-request.request) c.in_ok-policies.policies c.in_ok-policies.ensures.bound
    (subst (λ (r : Request). IsConcreteRequest (table_of g.F.ExtensionFunctionObject.answers c.args.authorizer.now) (limit_of c.args.authorizer.now) c.args.told.now.entries (request_parts r) (request_parts c.in_ok-request.request)) c.deref.ensures c.in_ok-request.ensures)
    c.in_ok-answer_told.ensures
