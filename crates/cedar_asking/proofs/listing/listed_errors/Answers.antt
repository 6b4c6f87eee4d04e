-- Why one error can't be listed is why the list can't: a limit that was met, or memory.
use Rattle.std.proofs.lemmas.Result.{err_from_is_err_and}
use Rattle.cedar_asking.proofs.Listed.{stops}
use Rattle.cedar_asking.proofs.listing.listed_errors.Goals as goal

pub returns-in_err-listed_error : goal.returns-in_err-listed_error
returns-in_err-listed_error c =
    let p = err_from_is_err_and c.from_residual.result c.from_residual.ensures.1 in
    rw (p.1, p.2) (stops c.args.errors.now c.loop-error.error-index c.error-item.result c.loop-error-test.true c.error-item.is c.in_err-listed_error.field-0.0 c.in_err-listed_error.ensures)
