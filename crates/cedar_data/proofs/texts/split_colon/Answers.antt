-- The first byte is a colon and the second isn't, and white space may follow.
use Rattle.std.proofs.Common.{◌≡◌, get_or, drop, subst, arith}
use Rattle.cedar_grammar.specs.Token.{mark, Colon}
use Rattle.cedar_grammar.specs.Tokens.{colon}
use Rattle.cedar_data.specs.Takes.{Skips}
use Rattle.cedar_data.proofs.Tokens.{takes_colon, after_first, takes_skips}
use Rattle.cedar_data.proofs.texts.split_colon.Goals as goal

pub split_at-requires : goal.split_at-requires
split_at-requires c =
    let first : get_or c.args.text.now 0 0 ≡ colon = omega arith in
    after_first c.args.text.now c.utf8.text (omega arith) (omega arith)

pub returns-clause-taken : goal.returns-clause-taken
returns-clause-taken c =
    let first : get_or c.args.text.now 0 0 ≡ colon = omega arith in
    let second : get_or c.args.text.now 1 0 ≡ colon → ⊥ = λ same. omega arith in
    takes_skips (mark Colon) c.args.text.now (drop 1 c.args.text.now) c.skip_blank.result.now (takes_colon c.args.text.now c.utf8.text first second)
    (subst (λ x. Skips x c.skip_blank.result.now) c.split_at.ensures.back c.skip_blank.ensures)
