-- A run is a word just where its first character begins one, and it is the word that it spells.
use Rattle.std.proofs.Common.{◌≡◌, true, sym, ◌∙◌}
use Rattle.std.specs.Str.{chars}
use Rattle.cedar_grammar.specs.Tokens.{begins_word}
use Rattle.cedar_tokens.specs.View.{word_view}
use Rattle.cedar_tokens.proofs.KindReading.{word_at, word_spelled}
use Rattle.cedar_tokens.proofs.words.split_word.Goals as goal

pub returns-clause-word : goal.returns-clause-word
returns-clause-word c =
    let begins : begins_word c.in_ok-first.first ≡ true = sym c.begins_word.ensures ∙ c.if-not-begins_word.false in
    let run = c.split_run.ensures in
    word_at c.args.text.now c.split_run.result.0.now c.split_run.result.1.now c.in_ok-first.first (chars c.in_ok-first.field-0-1.now) (word_view c.read_word.result)
    c.in_ok-first.ensures.characters begins run.run run.whole run.utf8 run.rest c.read_word.ensures.word

pub returns-clause-spelled : goal.returns-clause-spelled
returns-clause-spelled c =
    let begins : begins_word c.in_ok-first.first ≡ true = sym c.begins_word.ensures ∙ c.if-not-begins_word.false in
    let run = c.split_run.ensures in
    c.read_word.ensures.spelled (word_spelled c.args.text.now c.split_run.result.0.now c.split_run.result.1.now c.in_ok-first.first (chars c.in_ok-first.field-0-1.now) c.in_ok-first.ensures.characters begins run.run run.utf8)
