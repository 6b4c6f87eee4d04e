-- What stands between two quotes, and the white space behind them.
use Rattle.std.proofs.Common.{◌≡◌, ◌∙◌, get_or, take, drop, ap, subst, arith}
use Rattle.cedar_grammar.specs.Tokens.{quote}
use Rattle.cedar_data.specs.Quoted.{IsInside}
use Rattle.cedar_data.specs.Takes.{Skips}
use Rattle.cedar_data.proofs.Insides.{cut}
use Rattle.cedar_data.proofs.Tokens.{after_first, takes_skips}
use Rattle.cedar_data.proofs.quoted.split_quoted.Goals as goal

pub split_at-requires : goal.split_at-requires
split_at-requires c =
    let first : get_or c.args.text.now 0 0 ≡ quote = omega arith in
    after_first c.args.text.now c.utf8.text (omega arith) (omega arith)

pub split_at-requires-3 : goal.split_at-requires-3
split_at-requires-3 c =
    let bs = c.args.text.now in
    let first : get_or bs 0 0 ≡ quote = omega arith in
    let is = subst (IsInside c.in_ok-length.length) c.split_at.ensures.back c.in_ok-length.ensures.closed in
    let front = c.split_at-2.ensures.front ∙ ap (take c.in_ok-length.length) c.split_at.ensures.back in
    let back = c.split_at-2.ensures.back ∙ ap (drop c.in_ok-length.length) c.split_at.ensures.back in
    let parts = cut bs c.in_ok-length.length c.utf8.text first is c.split_at-2.result.0.now c.split_at-2.result.1.now front back in
    after_first c.split_at-2.result.1.now parts.utf8 (let closing = parts.closing in omega arith) (let closing = parts.closing in omega arith)

pub returns-clause-taken : goal.returns-clause-taken
returns-clause-taken c =
    let bs = c.args.text.now in
    let first : get_or bs 0 0 ≡ quote = omega arith in
    let is = subst (IsInside c.in_ok-length.length) c.split_at.ensures.back c.in_ok-length.ensures.closed in
    let front = c.split_at-2.ensures.front ∙ ap (take c.in_ok-length.length) c.split_at.ensures.back in
    let back = c.split_at-2.ensures.back ∙ ap (drop c.in_ok-length.length) c.split_at.ensures.back in
    let parts = cut bs c.in_ok-length.length c.utf8.text first is c.split_at-2.result.0.now c.split_at-2.result.1.now front back in
    takes_skips _ bs (drop 1 c.split_at-2.result.1.now) c.skip_blank.result.now parts.takes
    (subst (λ x. Skips x c.skip_blank.result.now) c.split_at-3.ensures.back c.skip_blank.ensures)
