use Rattle.std.proofs.Common.{◌≡◌, true, false, sym, ◌∙◌, arith}
use Rattle.std.specs.Prelude.{string_bytes}
use Rattle.std.proofs.lemmas.Result.{err_from_is_err_and}
use Rattle.std.proofs.lemmas.Str.{IsUtf8-string_bytes}
use Rattle.json.specs.Value.{value_view}
use Rattle.cedar_json.proofs.Saying.{value_said, value_unsaid, value_unparsed}
use Rattle.cedar_json.proofs.reading.read_value.Goals as goal

pub returns-in_err-value-clause-unsaid : goal.returns-in_err-value-clause-unsaid
returns-in_err-value-clause-unsaid c =
    let p = err_from_is_err_and c.from_residual.result c.from_residual.ensures.1 in
    rw (p.1, p.2) (value_unparsed c.args.json.now c.in_err-value.field-0.0 c.in_err-value.ensures.unread)

pub returns-then-not-is_value-clause-unsaid : goal.returns-then-not-is_value-clause-unsaid
returns-then-not-is_value-clause-unsaid c =
    let no : c.is_value.result ≡ false = grind arith in
    value_unsaid c.args.json.now (value_view c.in_ok-value.value) c.in_ok-value.ensures.read.0 (sym (c.is_value.ensures c.in_ok-value.ensures.read.1) ∙ no)

pub returns-clause-said : goal.returns-clause-said
returns-clause-said c =
    let yes : c.is_value.result ≡ true = grind arith in
    value_said c.args.json.now (string_bytes c.new-text.result) (string_bytes c.write_value.new.out) (value_view c.in_ok-value.value) c.in_ok-value.ensures.read.0
    (sym (c.is_value.ensures c.in_ok-value.ensures.read.1) ∙ yes)
    c.holds_texts.ensures (IsUtf8-string_bytes c.write_value.new.out) (c.new-text.ensures.bytes, c.in_ok-write_value.ensures)
