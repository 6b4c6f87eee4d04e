-- What fill_buf lends is copied to the front.
use Rattle.std.proofs.Common.{◌≤◌, length, subst, arith}
use Rattle.std.specs.Io.BufRead.{FillKeeps}
use Rattle.cedar_frames.proofs.Ahead.{copied_front, shown_front, shown_end}
use Rattle.cedar_frames.proofs.looking.copy_ahead.Goals as goal

pub returns-in-Ok-clause-ahead : goal.returns-in-Ok-clause-ahead
returns-in-Ok-clause-ahead g c =
    let rested = c.fill_buf.follows.lender-at-none in
    let filled = subst (FillKeeps _ (g.R.Read.remaining rested) (g.R.BufRead.consumable_len rested)) c.in-Ok.is c.fill_buf.follows.holds-at-none in
    let within : c.copy_front.result ≤ length c.in-Ok.ahead.now = omega (arith, c.copy_front.ensures.count) in
    shown_front _ _ _ c.in-Ok.ahead.now _ c.copy_front.result within (copied_front _ _ _ _ c.copy_front.ensures.count c.copy_front.ensures.copied) c.in-Ok.ensures.front filled.0 filled.1

pub returns-in-Ok-clause-end : goal.returns-in-Ok-clause-end
returns-in-Ok-clause-end g c = λ none some. shown_end _ c.in-Ok.ahead.now _ _ c.copy_front.ensures.count c.in-Ok.ensures.end none (omega (arith, some))

pub returns-in-Err-clause-err : goal.returns-in-Err-clause-err
returns-in-Err-clause-err g c = c.fill_buf.follows.holds-at-none.0
