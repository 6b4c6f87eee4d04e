-- The digits of a code hold no brace, so the first closing one ends it.
use Rattle.std.proofs.Common.{Some, arith}
use Rattle.std.proofs.lemmas.Str.Pattern.{strip_prefix_char}
use Rattle.cedar_literals.proofs.Escaping.{no_bracket, no_end, no_code, a_code_begins}
use Rattle.cedar_literals.proofs.unescaping.split_code.Goals as goal

pub returns-in_err-strip_prefix : goal.returns-in_err-strip_prefix
returns-in_err-strip_prefix c = rw c.from_residual.ensures (no_bracket c.args.text.now c.in_err-strip_prefix.ensures.cases)

pub returns-in_err-code : goal.returns-in_err-code
returns-in_err-code c =
    let begun = strip_prefix_char 123 c.args.text.now (Some c.in_ok-strip_prefix.field-0) c.in_ok-strip_prefix.ensures.cases (omega arith) in
    rw c.from_residual-in_err-code.ensures (no_end c.args.text.now c.in_ok-strip_prefix.field-0.now begun c.in_err-code.ensures.cases)

pub returns-in_err-coded : goal.returns-in_err-coded
returns-in_err-coded c =
    let begun = strip_prefix_char 123 c.args.text.now (Some c.in_ok-strip_prefix.field-0) c.in_ok-strip_prefix.ensures.cases (omega arith) in
    rw c.from_residual-in_err-coded.ensures
    (no_code c.args.text.now c.in_ok-strip_prefix.field-0.now c.in_ok-code.code c.in_ok-code.rest begun c.in_ok-code.ensures.cases c.in_err-coded.ensures)

pub returns : goal.returns
returns c =
    let begun = strip_prefix_char 123 c.args.text.now (Some c.in_ok-strip_prefix.field-0) c.in_ok-strip_prefix.ensures.cases (omega arith) in
    a_code_begins c.args.text.now c.in_ok-strip_prefix.field-0.now c.in_ok-code.code c.in_ok-code.rest c.in_ok-coded.field-0 begun c.in_ok-code.ensures.cases c.in_ok-coded.ensures
