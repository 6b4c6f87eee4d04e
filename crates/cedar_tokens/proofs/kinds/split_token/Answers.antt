-- The first character tells the kind: a word, digits, a string, a slot, or else a mark.
use Rattle.std.proofs.Common.{◌≡◌, true, false, sym, ◌∙◌}
use Rattle.std.specs.Char.{is_ascii_digit}
use Rattle.cedar_tokens.specs.View.{word_view, mark_view}
use Rattle.cedar_tokens.proofs.KindReading.{token-word, token-number, number_spelled, token-text, token-slot, token-mark, no_token, no_text, no_slot, other_token}
use Rattle.cedar_tokens.proofs.kinds.split_token.Goals as goal

pub returns-in-Some-clause-token : goal.returns-in-Some-clause-token
returns-in-Some-clause-token c = token-word c.args.text.now (word_view c.in-Some.word) c.in-Some.rest.now c.in-Some.ensures.word

pub returns-in_err-first-clause-token : goal.returns-in_err-first-clause-token
returns-in_err-first-clause-token c = rw c.from_residual.ensures (no_token _ c.in_err-first.ensures)

pub returns-then-is_ascii_digit-clause-token : goal.returns-then-is_ascii_digit-clause-token
returns-then-is_ascii_digit-clause-token c =
    let run = c.split_run.ensures in
    let h = c.is_ascii_digit.ensures.value in
    let digit : is_ascii_digit c.in_ok-first.first ≡ true = sym c.is_ascii_digit.ensures.value ∙ c.if-is_ascii_digit.true in
    token-number c.args.text.now c.in_ok-first.rest.now c.split_run.result.0.now c.split_run.result.1.now c.in_ok-first.first c.in_ok-first.ensures c.in_default.ensures.word digit run.run run.whole run.utf8 run.rest

pub returns-in_ok-raw-clause-token : goal.returns-in_ok-raw-clause-token
returns-in_ok-raw-clause-token c = token-text c.args.text.now c.in_ok-first.rest.now c.in_ok-raw.raw.now c.in_ok-raw.rest.now c.in_ok-first.first c.utf8.text c.in_ok-first.ensures c.if-first-eq34.true c.in_ok-raw.ensures

pub returns-in_err-raw-clause-token : goal.returns-in_err-raw-clause-token
returns-in_err-raw-clause-token c = rw c.from_residual-in_err-raw.ensures (no_text c.args.text.now c.in_ok-first.rest.now c.in_ok-first.first c.in_ok-first.ensures c.if-first-eq34.true c.in_err-raw.ensures)

pub returns-in_ok-word-clause-token : goal.returns-in_ok-word-clause-token
returns-in_ok-word-clause-token c = token-slot c.args.text.now c.in_ok-first.rest.now (word_view c.in_ok-word.word) c.in_ok-word.rest.now c.in_ok-first.first c.utf8.text c.in_ok-first.ensures c.if-first-eq63.true c.in_ok-word.ensures.word

pub returns-in_err-word-clause-token : goal.returns-in_err-word-clause-token
returns-in_err-word-clause-token c = rw c.from_residual-in_err-word.ensures (no_slot c.args.text.now c.in_ok-first.rest.now c.in_ok-first.first c.in_ok-first.ensures c.if-first-eq63.true c.in_err-word.ensures.word)

pub returns-in_ok-mark-clause-token : goal.returns-in_ok-mark-clause-token
returns-in_ok-mark-clause-token c =
    let no_digit : is_ascii_digit c.in_ok-first.first ≡ false = sym c.is_ascii_digit.ensures.value ∙ c.if-is_ascii_digit.false in
    token-mark c.args.text.now c.in_ok-first.rest.now (mark_view c.in_ok-mark.mark) c.in_ok-mark.rest.now c.in_ok-first.first c.in_ok-first.ensures c.in_default.ensures.word no_digit c.if-first-eq34.false c.if-first-eq63.false c.in_ok-mark.ensures

pub returns-in_err-mark-clause-token : goal.returns-in_err-mark-clause-token
returns-in_err-mark-clause-token c =
    let no_digit : is_ascii_digit c.in_ok-first.first ≡ false = sym c.is_ascii_digit.ensures.value ∙ c.if-is_ascii_digit.false in
    rw c.from_residual-in_err-mark.ensures (other_token c.args.text.now c.in_ok-first.rest.now c.in_ok-first.first c.in_ok-first.ensures c.in_default.ensures.word no_digit c.if-first-eq34.false c.if-first-eq63.false ∙ c.in_err-mark.ensures)

pub returns-then-is_ascii_digit-clause-spelled : goal.returns-then-is_ascii_digit-clause-spelled
returns-then-is_ascii_digit-clause-spelled c =
    let run = c.split_run.ensures in
    let digit : is_ascii_digit c.in_ok-first.first ≡ true = sym c.is_ascii_digit.ensures.value ∙ c.if-is_ascii_digit.true in
    number_spelled c.args.text.now c.in_ok-first.rest.now c.split_run.result.0.now c.split_run.result.1.now c.in_ok-first.first c.in_ok-first.ensures digit run.run run.utf8
