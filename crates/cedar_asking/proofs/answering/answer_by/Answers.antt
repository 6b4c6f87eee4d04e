-- What the response's readers give, and its errors by their names.
use Rattle.std.proofs.Common.{◌∙◌, ap, map}
use Rattle.std.proofs.lemmas.Result.{err_from_is_err_and}
use Rattle.cedar_evaluator.specs.Holding.{error_seen}
use Rattle.cedar_asking.proofs.Answered.{unlisted}
use Rattle.cedar_asking.proofs.answering.answer_by.Goals as goal

pub returns-in_err-listed : goal.returns-in_err-listed
returns-in_err-listed c =
    let p = err_from_is_err_and c.from_residual.result c.from_residual.ensures.1 in
    rw (p.1, p.2) (unlisted c.args.response.now (map error_seen c.as_slice.result.now) (ap (map error_seen) c.as_slice.ensures.value) c.in_err-listed.field-0.0 c.in_err-listed.ensures)

pub returns-in_err-new : goal.returns-in_err-new
returns-in_err-new c =
    let p = err_from_is_err_and c.from_residual-in_err-new.result c.from_residual-in_err-new.ensures.1 in
    rw (p.1, p.2) tt

pub returns : goal.returns
returns c = (
  c.in_ok-listed.listed.items,
  record {
    kinds = c.in_ok-listed.ensures.0;
    errors = c.in_ok-listed.ensures.1 ∙ ap (map error_seen) c.as_slice.ensures.value;
    decided = c.decision.ensures;
    must = c.in_ok-must.ensures.must;
    may = c.in_ok-must.ensures.may;
    erring = c.in_ok-new.ensures;
  },
)
