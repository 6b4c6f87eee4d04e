-- The first response taken up again, by the laws on what is told and what isn't.
use Rattle.std.proofs.Common.{Ok, Err}
use Rattle.std.proofs.lemmas.Result.{err_from_is_err_and}
use Rattle.cedar_extensions.specs.Table.{as_table}
use Rattle.cedar_replies.specs.Replies.{answer_of}
use Rattle.cedar_restricted_evaluation.proofs.Built.{gives_built}
use Rattle.cedar_evaluator.specs.Authorizing.{table_of, limit_of}
use Rattle.cedar_asking.proofs.AnsweredTold.{reauthorizes_at, tells_nothing, says_nothing}
use Rattle.cedar_asking.proofs.answering.answer_told.Goals as goal

pub returns-in-Err : goal.returns-in-Err
returns-in-Err g c = λ by world q old es keeps are told extends.
    let first = c.args.first.now in
    let entries = c.args.told.now.entries in
    let last = answer_of c.args.last.now in
    let table = as_table g.F.ExtensionFunctionObject.answers c.args.extensions.now in
    let gives = gives_built g.F.ExtensionFunctionObject.answers c.args.extensions.now in
    let refused = reauthorizes_at c.args.entities.now (table_of g.F.ExtensionFunctionObject.answers c.new-authorizer.result) table (limit_of c.new-authorizer.result) c.args.depth entries first (Err c.in-Err.error) c.new-authorizer.ensures.table c.new-authorizer.ensures.limit c.in-Err.ensures in
    tells_nothing by world q first old entries last c.in-Err.error c.why_not_told.result
    (c.tells_are_refused.ensures.context by world q first old entries es c.args.entities.now table c.args.depth last c.in-Err.error gives keeps are told refused)
    c.why_not_told.ensures

pub returns-in_err-new : goal.returns-in_err-new
returns-in_err-new g c = λ by world q old es keeps are told extends.
    let first = c.args.first.now in
    let entries = c.args.told.now.entries in
    let last = answer_of c.args.last.now in
    let table = as_table g.F.ExtensionFunctionObject.answers c.args.extensions.now in
    let taken = reauthorizes_at c.args.entities.now (table_of g.F.ExtensionFunctionObject.answers c.new-authorizer.result) table
    (limit_of c.new-authorizer.result) c.args.depth entries first (Ok c.in-Ok.again) c.new-authorizer.ensures.table c.new-authorizer.ensures.limit
    c.in-Ok.ensures in
    let p = err_from_is_err_and c.from_residual.result c.from_residual.ensures.1 in
    rw (p.1, p.2) (says_nothing by world q first old entries last c.in-Ok.again
    (λ some. c.tells_are_refused.ensures.limit by world q first c.in-Ok.again old entries es c.args.entities.now table c.args.depth last (gives_built g.F.ExtensionFunctionObject.answers c.args.extensions.now) keeps are told taken some)
    c.in_err-new.field-0.0 c.in_err-new.ensures)

pub returns : goal.returns
returns g c = λ by world q old es keeps are told extends.
    let first = c.args.first.now in
    let entries = c.args.told.now.entries in
    let table = as_table g.F.ExtensionFunctionObject.answers c.args.extensions.now in
    let gives = gives_built g.F.ExtensionFunctionObject.answers c.args.extensions.now in
    let taken = reauthorizes_at c.args.entities.now (table_of g.F.ExtensionFunctionObject.answers c.new-authorizer.result) table (limit_of c.new-authorizer.result) c.args.depth entries first (Ok c.in-Ok.again) c.new-authorizer.ensures.table c.new-authorizer.ensures.limit c.in-Ok.ensures in
    c.tells_are_answered.ensures by world q first c.in-Ok.again old entries es c.args.entities.now table c.args.depth
    c.in_ok-new.ensures.0 (answer_of c.args.last.now) (answer_of c.in_ok-new.new) (answer_of c.in_ok-joined.field-0)
    gives keeps are told extends taken c.in_ok-new.ensures.1 c.in_ok-joined.ensures
