-- The tokens passed and those of the rest are those of the text; where a rest begins with none, the text has none.
use Rattle.std.proofs.Common.{◌≡◌, length, sym, ap, ◌∙◌, subst, arith}
use Rattle.std.specs.Str.{chars}
use Rattle.std.proofs.lemmas.Bool.{eqb-true, eqb-false}
use Rattle.cedar_grammar.specs.Tokens.{token_read}
use Rattle.cedar_tokens.specs.Marks.{StartsNoComment}
use Rattle.cedar_tokens.proofs.Rests.{rest_rest, chars-some, no_chars}
use Rattle.cedar_tokens.proofs.Blanks.{blank-no_comment}
use Rattle.cedar_tokens.proofs.Reading.{left_all, left_more, left_none, left_stuck}
use Rattle.cedar_tokens.proofs.Unread.{some_tokens}
use Rattle.cedar_tokens.proofs.reader.check.Goals as goal

pub tokens-init : goal.tokens-init
tokens-init c =
    let skipped = c.skip_blank-rest.ensures in
    record {
      utf8 = skipped.rest.utf8;
      rest = skipped.rest;
      visible = subst StartsNoComment (sym skipped.blank) (blank-no_comment (chars c.args.text.now));
      passed = record { done = _; left = left_all c.args.text.now c.skip_blank-rest.result.now c.utf8.text skipped.rest skipped.blank };
    }

pub returns-in_default-clause-refused : goal.returns-in_default-clause-refused
returns-in_default-clause-refused c =
    let i = c.tokens.invariant in
    let some : length c.tokens.rest.now ≡ 0 → ⊥ = eqb-false (length c.tokens.rest.now) 0 (sym c.is_empty.ensures ∙ c.tokens-test.true) in
    let short = i.rest.short in
    let none = left_stuck c.args.text.now c.tokens.rest.now i.passed.done i.passed.left (chars-some c.tokens.rest.now i.rest.utf8 (omega arith)) c.in_default.ensures.token in
    (omega arith, ap (λ x. token_read (chars x)) i.rest.bytes ∙ c.in_default.ensures.token, none)

pub tokens-preserved : goal.tokens-preserved
tokens-preserved c =
    let i = c.tokens.invariant in
    let read = c.in-Some.ensures.token in
    let skipped = c.skip_blank-rest-in-tokens.ensures in
    record {
      utf8 = skipped.rest.utf8;
      rest = rest_rest c.args.text.now c.tokens.rest.now c.skip_blank-rest-in-tokens.result.now i.rest (rest_rest c.tokens.rest.now c.in-Some.after.now c.skip_blank-rest-in-tokens.result.now read.cut skipped.rest);
      visible = subst StartsNoComment (sym skipped.blank) (blank-no_comment (chars c.in-Some.after.now));
      passed = record { done = _; left = left_more c.args.text.now c.tokens.rest.now c.in-Some.after.now c.skip_blank-rest-in-tokens.result.now i.passed.done _ i.passed.left i.rest.utf8 read skipped.rest skipped.blank };
    }

pub returns-clause-readable : goal.returns-clause-readable
returns-clause-readable c =
    let none : length c.tokens.rest.now ≡ 0 = eqb-true (length c.tokens.rest.now) 0 (sym c.is_empty.ensures ∙ c.tokens-test.false) in
    some_tokens (chars c.args.text.now) c.tokens.invariant.passed.done
    (left_none c.args.text.now c.tokens.rest.now c.tokens.invariant.passed.done c.tokens.invariant.passed.left (no_chars c.tokens.rest.now none))
