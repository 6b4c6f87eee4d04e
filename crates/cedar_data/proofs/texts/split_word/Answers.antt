-- The longest run of the characters of words, and the white space behind it.
use Rattle.std.proofs.Common.{◌≡◌, ◌∙◌, true, get_or, drop, sym, ap, subst}
use Rattle.cedar_grammar.specs.Token.{word, word_of}
use Rattle.cedar_grammar.specs.Tokens.{begins_word, is_in_word}
use Rattle.cedar_data.specs.Runs.{run_length}
use Rattle.cedar_data.specs.Takes.{Skips, Takes}
use Rattle.cedar_data.proofs.Tokens.{takes_word, takes_skips}
use Rattle.cedar_data.proofs.texts.split_word.Goals as goal

pub returns-clause-taken : goal.returns-clause-taken
returns-clause-taken c =
    let bs = c.args.text.now in
    let begins : begins_word (get_or bs 0 0) ≡ true = ap begins_word (sym c.byte_at.ensures) ∙ sym c.begins_word.ensures ∙ c.if-not-begins_word.false in
    takes_skips _ bs (drop (run_length is_in_word bs) bs) c.skip_blank.result.now
    (subst (λ s. Takes (word (word_of s)) bs (drop (run_length is_in_word bs) bs)) (sym c.split_run.ensures.front) (takes_word bs c.utf8.text begins))
    (subst (λ x. Skips x c.skip_blank.result.now) c.split_run.ensures.back c.skip_blank.ensures)
