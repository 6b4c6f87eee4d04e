-- The response of the authorizer, by the laws on responses to the request of a question.
use Rattle.std.proofs.lemmas.Result.{err_from_is_err_and}
use Rattle.cedar_extensions.specs.Table.{as_table}
use Rattle.cedar_requests.specs.Holding.{request_parts}
use Rattle.cedar_restricted_evaluation.proofs.Built.{gives_built}
use Rattle.cedar_evaluator.specs.Authorizing.{table_of, limit_of}
use Rattle.cedar_asking.proofs.Answered.{responds_at, is_answered, not_answered}
use Rattle.cedar_asking.proofs.answering.answer.Goals as goal

pub returns-in_err-answer : goal.returns-in_err-answer
returns-in_err-answer g c = λ by world q are asked named.
    let r = request_parts c.args.request in
    let es = c.args.policies.now in
    let table = as_table g.F.ExtensionFunctionObject.answers c.args.extensions.now in
    let responds = responds_at r c.args.entities.now (table_of g.F.ExtensionFunctionObject.answers c.new-authorizer.result) table (limit_of c.new-authorizer.result) c.args.depth es c.in_ok-response.response c.new-authorizer.ensures.table c.new-authorizer.ensures.limit c.in_ok-response.ensures in
    let p = err_from_is_err_and c.from_residual-in_err-answer.result c.from_residual-in_err-answer.ensures.1 in
    rw (p.1, p.2) (not_answered c.worlds_have_facts.ensures c.worlds_are_shown.ensures.stores c.worlds_are_shown.ensures.tables c.worlds_are_shown.ensures.made c.responses_answer_questions.ensures c.questions_are_kept.ensures
    by world q es c.args.entities.now table (gives_built g.F.ExtensionFunctionObject.answers c.args.extensions.now) c.args.depth r c.len-count.ensures.whole are asked named c.in_ok-response.response responds
    c.in_err-answer.field-0.0 c.in_err-answer.ensures)

pub returns : goal.returns
returns g c = λ by world q are asked named.
    let r = request_parts c.args.request in
    let es = c.args.policies.now in
    let table = as_table g.F.ExtensionFunctionObject.answers c.args.extensions.now in
    let responds = responds_at r c.args.entities.now (table_of g.F.ExtensionFunctionObject.answers c.new-authorizer.result) table (limit_of c.new-authorizer.result) c.args.depth es c.in_ok-response.response c.new-authorizer.ensures.table c.new-authorizer.ensures.limit c.in_ok-response.ensures in
    is_answered c.worlds_have_facts.ensures c.worlds_are_shown.ensures.stores c.worlds_are_shown.ensures.tables c.worlds_are_shown.ensures.made c.responses_answer_questions.ensures c.questions_are_kept.ensures
    by world q es c.args.entities.now table (gives_built g.F.ExtensionFunctionObject.answers c.args.extensions.now) c.args.depth r c.len-count.ensures.whole are asked named c.in_ok-response.response responds
    c.in_ok-answer.answer c.in_ok-answer.ensures
