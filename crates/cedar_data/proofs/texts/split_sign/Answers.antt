-- The first byte is the mark, and white space may follow it.
use Rattle.std.proofs.Common.{◌≡◌, get_or, drop, subst, arith}
use Rattle.cedar_grammar.specs.Token.{mark}
use Rattle.cedar_data.specs.Classes.{mark_of}
use Rattle.cedar_data.specs.Takes.{Skips}
use Rattle.cedar_data.proofs.Tokens.{takes_sign, sign_boundary, takes_skips}
use Rattle.cedar_data.proofs.texts.split_sign.Goals as goal

pub split_at-requires : goal.split_at-requires
split_at-requires c =
    let first : get_or c.args.text.now 0 0 ≡ c.byte.result = omega arith in
    sign_boundary c.args.sign c.byte.result c.args.text.now c.byte.ensures c.utf8.text first

pub returns-clause-taken : goal.returns-clause-taken
returns-clause-taken c =
    let first : get_or c.args.text.now 0 0 ≡ c.byte.result = omega arith in
    takes_skips (mark (mark_of c.args.sign)) c.args.text.now (drop 1 c.args.text.now) c.skip_blank.result.now
    (takes_sign c.args.sign c.byte.result c.args.text.now c.byte.ensures c.utf8.text first) (subst (λ x. Skips x c.skip_blank.result.now) c.split_at.ensures.back c.skip_blank.ensures)
