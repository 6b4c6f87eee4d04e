-- The first character tells the kind: a word, a string, colons, or else a mark.
use Rattle.std.proofs.Common.{◌≡◌, true, false, sym, ◌∙◌}
use Rattle.cedar_grammar.specs.Tokens.{begins_word}
use Rattle.cedar_schema_text.specs.View.{mark_view, kind_view}
use Rattle.cedar_schema_text.proofs.KindReading.{no_token, token-word, token-text, no_text, token-colons, token-mark, no_mark}
use Rattle.cedar_schema_text.proofs.kinds.split_token.Goals as goal

pub returns-in_err-first : goal.returns-in_err-first
returns-in_err-first c = rw c.from_residual.ensures (no_token _ c.in_err-first.ensures)

pub returns-then-begins_word : goal.returns-then-begins_word
returns-then-begins_word c =
    let begins : begins_word c.in_ok-first.first ≡ true = sym c.begins_word.ensures ∙ c.if-begins_word.true in
    let run = c.split_run.ensures in
    token-word c.args.text.now c.in_ok-first.rest.now c.in_ok-first.first c.in_ok-first.ensures c.split_run.result.0.now c.split_run.result.1.now begins run.run run.whole run.utf8 run.rest

pub returns-in_ok-raw : goal.returns-in_ok-raw
returns-in_ok-raw c = token-text c.args.text.now c.in_ok-first.rest.now c.in_ok-first.first c.in_ok-first.ensures c.in_ok-raw.raw.now c.in_ok-raw.rest.now c.utf8.text c.if-first-eq34.true c.in_ok-raw.ensures

pub returns-in_err-raw : goal.returns-in_err-raw
returns-in_err-raw c = rw c.from_residual-in_err-raw.ensures (no_text c.args.text.now c.in_ok-first.rest.now c.in_ok-first.first c.in_ok-first.ensures c.if-first-eq34.true c.in_err-raw.ensures)

pub returns-then-first-eq58 : goal.returns-then-first-eq58
returns-then-first-eq58 c = token-colons c.args.text.now c.in_ok-first.rest.now c.in_ok-first.first c.in_ok-first.ensures (kind_view c.split_colons.result.0) c.split_colons.result.1.now c.utf8.text c.if-first-eq58.true c.split_colons.ensures.mark c.split_colons.ensures.rest

pub returns-in_ok-mark : goal.returns-in_ok-mark
returns-in_ok-mark c =
    let begins : begins_word c.in_ok-first.first ≡ false = sym c.begins_word.ensures ∙ c.if-begins_word.false in
    token-mark c.args.text.now c.in_ok-first.rest.now c.in_ok-first.first c.in_ok-first.ensures (mark_view c.in_ok-mark.mark) c.utf8.text begins c.if-first-eq34.false c.if-first-eq58.false c.in_ok-mark.ensures

pub returns-in_err-mark : goal.returns-in_err-mark
returns-in_err-mark c =
    let begins : begins_word c.in_ok-first.first ≡ false = sym c.begins_word.ensures ∙ c.if-begins_word.false in
    rw c.from_residual-in_err-mark.ensures (no_mark c.args.text.now c.in_ok-first.rest.now c.in_ok-first.first c.in_ok-first.ensures begins c.if-first-eq34.false c.if-first-eq58.false c.in_err-mark.ensures)
