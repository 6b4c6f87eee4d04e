-- The first two bytes are colons, and white space may follow them.
use Rattle.std.proofs.Common.{◌≡◌, get_or, drop, subst, arith}
use Rattle.cedar_grammar.specs.Token.{mark, ColonColon}
use Rattle.cedar_grammar.specs.Tokens.{colon}
use Rattle.cedar_data.specs.Takes.{Skips}
use Rattle.cedar_data.proofs.Tokens.{takes_separator, separator_boundary, takes_skips}
use Rattle.cedar_data.proofs.texts.split_separator.Goals as goal

pub split_at-requires : goal.split_at-requires
split_at-requires c =
    let first : get_or c.args.text.now 0 0 ≡ colon = omega arith in
    let second : get_or c.args.text.now 1 0 ≡ colon = omega arith in
    separator_boundary c.args.text.now c.utf8.text first second

pub returns-clause-taken : goal.returns-clause-taken
returns-clause-taken c =
    let first : get_or c.args.text.now 0 0 ≡ colon = omega arith in
    let second : get_or c.args.text.now 1 0 ≡ colon = omega arith in
    takes_skips (mark ColonColon) c.args.text.now (drop 2 c.args.text.now) c.skip_blank.result.now (takes_separator c.args.text.now c.utf8.text first second)
    (subst (λ x. Skips x c.skip_blank.result.now) c.split_at.ensures.back c.skip_blank.ensures)
