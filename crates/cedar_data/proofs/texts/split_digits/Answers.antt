-- The longest run of digits, and the white space behind it.
use Rattle.std.proofs.Common.{◌≡◌, ◌∙◌, true, get_or, drop, sym, ap, subst}
use Rattle.std.specs.Char.{is_ascii_digit}
use Rattle.std.specs.Str.Parse.{digits_value}
use Rattle.cedar_grammar.specs.Token.{number}
use Rattle.cedar_data.specs.Runs.{run_length}
use Rattle.cedar_data.specs.Takes.{Skips, Takes}
use Rattle.cedar_data.proofs.Tokens.{takes_digits, takes_skips, first_kept}
use Rattle.cedar_data.proofs.texts.split_digits.Goals as goal

pub returns-clause-taken : goal.returns-clause-taken
returns-clause-taken c =
    let bs = c.args.text.now in
    let first : is_ascii_digit (get_or bs 0 0) ≡ true = ap is_ascii_digit (sym c.byte_at.ensures) ∙ sym c.is_ascii_digit.ensures.value ∙ c.if-not-is_ascii_digit.false in
    takes_skips _ bs (drop (run_length is_ascii_digit bs) bs) c.skip_blank.result.now
    (subst (λ s. Takes (number (digits_value 10 s)) bs (drop (run_length is_ascii_digit bs) bs)) (sym c.split_run.ensures.front) (takes_digits bs c.utf8.text first))
    (subst (λ x. Skips x c.skip_blank.result.now) c.split_run.ensures.back c.skip_blank.ensures)

pub returns-clause-digits : goal.returns-clause-digits
returns-clause-digits c =
    let bs = c.args.text.now in
    let first : is_ascii_digit (get_or bs 0 0) ≡ true = ap is_ascii_digit (sym c.byte_at.ensures) ∙ sym c.is_ascii_digit.ensures.value ∙ c.if-not-is_ascii_digit.false in
    ap (λ s. is_ascii_digit (get_or s 0 0)) c.split_run.ensures.front ∙ ap is_ascii_digit (first_kept is_ascii_digit bs first) ∙ first
