use Rattle.std.proofs.Common.{◌≢◌, ◌<◌, length, get_or, ap, sym, ◌∙◌, arith}
use Rattle.std.specs.Prelude.{is_ok}
use Rattle.std.proofs.lemmas.Bool.Decides.{nat_tests}
use Rattle.cedar_json.proofs.Numerals.{long_read}
use Rattle.cedar_json.proofs.scalars.is_long.Goals as goal

pub returns-in-Ok : goal.returns-in-Ok
returns-in-Ok c =
    let s = c.args.text.now in
    let some : 0 < length s = grind (arith, nat_tests) in
    let plain : get_or s 0 0 ≢ 43 = λ e. absurd (grind (arith, nat_tests)) in
    sym (ap is_ok c.in-Ok.is) ∙ long_read s c.parse.result some plain c.parse.ensures.value.0

pub returns-in-Err : goal.returns-in-Err
returns-in-Err c =
    let s = c.args.text.now in
    let some : 0 < length s = grind (arith, nat_tests) in
    let plain : get_or s 0 0 ≢ 43 = λ e. absurd (grind (arith, nat_tests)) in
    sym (ap is_ok c.in-Err.is) ∙ long_read s c.parse.result some plain c.parse.ensures.value.0
