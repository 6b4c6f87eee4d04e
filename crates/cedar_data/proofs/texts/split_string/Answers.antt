-- Plain bytes between two quotes, and the white space behind them.
use Rattle.std.proofs.Common.{◌≡◌, ◌∙◌, get_or, take, drop, ap, subst, arith}
use Rattle.cedar_grammar.specs.Tokens.{quote}
use Rattle.cedar_data.specs.Runs.{run_length, is_plain}
use Rattle.cedar_data.specs.Takes.{Skips}
use Rattle.cedar_data.proofs.Cuts.{behind_string}
use Rattle.cedar_data.proofs.Strings.{takes_string}
use Rattle.cedar_data.proofs.Tokens.{after_first, takes_skips}
use Rattle.cedar_data.proofs.texts.split_string.Goals as goal

pub split_at-requires : goal.split_at-requires
split_at-requires c =
    let first : get_or c.args.text.now 0 0 ≡ quote = omega arith in
    after_first c.args.text.now c.utf8.text (omega arith) (omega arith)

pub split_at-requires-2 : goal.split_at-requires-2
split_at-requires-2 c =
    let bs = c.args.text.now in
    let first : get_or bs 0 0 ≡ quote = omega arith in
    let rest = c.split_run.result.1.now in
    let back : rest ≡ drop (run_length is_plain (drop 1 bs)) (drop 1 bs) = c.split_run.ensures.back ∙ ap (λ x. drop (run_length is_plain x) x) c.split_at.ensures.back in
    let closing : get_or rest 0 0 ≡ quote = omega arith in
    after_first rest (behind_string bs rest c.utf8.text first back) (omega arith) (omega arith)

pub returns-clause-taken : goal.returns-clause-taken
returns-clause-taken c =
    let bs = c.args.text.now in
    let first : get_or bs 0 0 ≡ quote = omega arith in
    let raw = c.split_run.result.0.now in
    let rest = c.split_run.result.1.now in
    let front : raw ≡ take (run_length is_plain (drop 1 bs)) (drop 1 bs) = c.split_run.ensures.front ∙ ap (λ x. take (run_length is_plain x) x) c.split_at.ensures.back in
    let back : rest ≡ drop (run_length is_plain (drop 1 bs)) (drop 1 bs) = c.split_run.ensures.back ∙ ap (λ x. drop (run_length is_plain x) x) c.split_at.ensures.back in
    let closing : get_or rest 0 0 ≡ quote = omega arith in
    takes_skips _ bs (drop 1 rest) c.skip_blank.result.now (takes_string bs c.utf8.text first raw rest front back closing).takes
    (subst (λ x. Skips x c.skip_blank.result.now) c.split_at-2.ensures.back c.skip_blank.ensures)

pub returns-clause-plain : goal.returns-clause-plain
returns-clause-plain c =
    let bs = c.args.text.now in
    let first : get_or bs 0 0 ≡ quote = omega arith in
    let raw = c.split_run.result.0.now in
    let rest = c.split_run.result.1.now in
    let front : raw ≡ take (run_length is_plain (drop 1 bs)) (drop 1 bs) = c.split_run.ensures.front ∙ ap (λ x. take (run_length is_plain x) x) c.split_at.ensures.back in
    let back : rest ≡ drop (run_length is_plain (drop 1 bs)) (drop 1 bs) = c.split_run.ensures.back ∙ ap (λ x. drop (run_length is_plain x) x) c.split_at.ensures.back in
    let closing : get_or rest 0 0 ≡ quote = omega arith in
    (takes_string bs c.utf8.text first raw rest front back closing).itself
