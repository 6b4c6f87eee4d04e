-- No identifier holds a quote, so a uid's first quote begins its id, and two colons stand before it.
use Rattle.std.proofs.Common.{Some, None, arith}
use Rattle.std.proofs.lemmas.Str.Pattern.{strip_suffix_char}
use Rattle.cedar_literals.proofs.Cutting.{no_quote, no_colon, one_colon, no_last, a_cut}
use Rattle.cedar_literals.proofs.reading.split_uid.Goals as goal

pub returns-in_err-front : goal.returns-in_err-front
returns-in_err-front c = rw c.from_residual.ensures (no_quote c.args.text.now c.in_err-front.ensures.cases)

pub returns-in_err-colon : goal.returns-in_err-colon
returns-in_err-colon c =
    rw c.from_residual-in_err-colon.ensures (no_colon c.args.text.now c.in_ok-front.front c.in_ok-front.back c.in_ok-front.ensures.cases (strip_suffix_char 58 c.in_ok-front.front.now None c.in_err-colon.ensures.cases (omega arith)))

pub returns-in_err-name : goal.returns-in_err-name
returns-in_err-name c =
    let first = strip_suffix_char 58 c.in_ok-front.front.now (Some c.in_ok-colon.colon) c.in_ok-colon.ensures.cases (omega arith) in
    rw c.from_residual-in_err-name.ensures (one_colon c.args.text.now c.in_ok-front.front c.in_ok-front.back c.in_ok-colon.colon.now c.in_ok-front.ensures.cases first (strip_suffix_char 58 c.in_ok-colon.colon.now None c.in_err-name.ensures.cases (omega arith)))

pub returns-in_err-id : goal.returns-in_err-id
returns-in_err-id c =
    rw c.from_residual-in_err-id.ensures (no_last c.args.text.now c.in_ok-front.front c.in_ok-front.back c.in_ok-front.ensures.cases (strip_suffix_char 34 c.in_ok-front.back.now None c.in_err-id.ensures.cases (omega arith)))

pub returns : goal.returns
returns c =
    let first = strip_suffix_char 58 c.in_ok-front.front.now (Some c.in_ok-colon.colon) c.in_ok-colon.ensures.cases (omega arith) in
    let second = strip_suffix_char 58 c.in_ok-colon.colon.now (Some c.in_ok-name.name) c.in_ok-name.ensures.cases (omega arith) in
    let last = strip_suffix_char 34 c.in_ok-front.back.now (Some c.in_ok-id.id) c.in_ok-id.ensures.cases (omega arith) in
    a_cut c.args.text.now c.in_ok-front.front c.in_ok-front.back c.in_ok-colon.colon.now c.in_ok-name.name.now c.in_ok-id.id.now c.in_ok-front.ensures.cases first second last
