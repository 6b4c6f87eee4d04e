-- As check does, with the tokens kept: each is placed behind those before it, and is as it is spelled.
use Rattle.std.proofs.Common.{◌≡◌, ◌++◌, ◌∷◌, [], ◌-◌, length, sym, ap, ◌∙◌, subst, arith}
use Rattle.std.specs.Prelude.{map, All}
use Rattle.std.specs.Str.{chars}
use Rattle.std.proofs.lemmas.List.{map-append}
use Rattle.std.proofs.lemmas.List.Elements.{All-nil, All-push}
use Rattle.std.proofs.lemmas.Bool.{eqb-true, eqb-false}
use Rattle.cedar_grammar.specs.Tokens.{token_read}
use Rattle.cedar_tokens.specs.View.{token_of}
use Rattle.cedar_tokens.specs.Spelling.{IsSpelledToken}
use Rattle.cedar_tokens.specs.Places.{ArePlaced}
use Rattle.cedar_tokens.specs.Marks.{StartsNoComment}
use Rattle.cedar_tokens.proofs.Rests.{rest_rest, chars-some, no_chars}
use Rattle.cedar_tokens.proofs.Blanks.{blank-no_comment}
use Rattle.cedar_tokens.proofs.Reading.{Left, left_all, left_more, left_none, left_stuck, placed_more, stands}
use Rattle.cedar_tokens.proofs.tokenizer.tokenize.Goals as goal

pub tokens-init : goal.tokens-init
tokens-init c =
    let skipped = c.skip_blank-rest.ensures in
    record {
      utf8 = skipped.rest.utf8;
      rest = skipped.rest;
      visible = subst StartsNoComment (sym skipped.blank) (blank-no_comment (chars c.args.text.now));
      left = subst (Left c.args.text.now c.skip_blank-rest.result.now) (sym (ap (map token_of) c.new-tokens.ensures.items)) (left_all c.args.text.now c.skip_blank-rest.result.now c.utf8.text skipped.rest skipped.blank);
      places = subst (λ ts. ArePlaced c.args.text.now 0 ts (length c.args.text.now - length c.skip_blank-rest.result.now)) (sym c.new-tokens.ensures.items) (omega arith);
      spelled = subst (All IsSpelledToken) (sym c.new-tokens.ensures.items) (All-nil IsSpelledToken);
    }

pub returns-in_default-clause-refused : goal.returns-in_default-clause-refused
returns-in_default-clause-refused c =
    let i = c.tokens.invariant in
    let some : length c.tokens.rest.now ≡ 0 → ⊥ = eqb-false (length c.tokens.rest.now) 0 (sym c.is_empty.ensures ∙ c.tokens-test.true) in
    let short = i.rest.short in
    let none = left_stuck c.args.text.now c.tokens.rest.now (map token_of c.tokens.tokens.items) i.left (chars-some c.tokens.rest.now i.rest.utf8 (omega arith)) c.in_default.ensures.token in
    (omega arith, ap (λ x. token_read (chars x)) i.rest.bytes ∙ c.in_default.ensures.token, none)

pub tokens-preserved : goal.tokens-preserved
tokens-preserved c =
    let i = c.tokens.invariant in
    let read = c.in-Some.ensures.token in
    let skipped = c.skip_blank-rest-in-tokens.ensures in
    let old = c.tokens.tokens.items in
    let token = c.in-Some.token in
    let place = c.in-Some.ensures.place in
    let pushed : c.push.new.self.items ≡ old ++ (token ∷ []) = c.in_ok-push.ensures.items in
    let short = skipped.rest.short in
    record {
      utf8 = skipped.rest.utf8;
      rest = rest_rest c.args.text.now c.tokens.rest.now c.skip_blank-rest-in-tokens.result.now i.rest (rest_rest c.tokens.rest.now c.in-Some.after.now c.skip_blank-rest-in-tokens.result.now read.cut skipped.rest);
      visible = subst StartsNoComment (sym skipped.blank) (blank-no_comment (chars c.in-Some.after.now));
      left =
          subst (Left c.args.text.now c.skip_blank-rest-in-tokens.result.now) (sym (ap (map token_of) pushed ∙ map-append token_of old (token ∷ [])))
          (left_more c.args.text.now c.tokens.rest.now c.in-Some.after.now c.skip_blank-rest-in-tokens.result.now (map token_of old) (token_of token) i.left i.rest.utf8 read skipped.rest skipped.blank);
      places =
          subst (λ ts. ArePlaced c.args.text.now 0 ts (length c.args.text.now - length c.skip_blank-rest-in-tokens.result.now)) (sym pushed)
          (placed_more c.args.text.now 0 (length c.args.text.now - length c.tokens.rest.now) old token i.places (omega arith) (stands c.args.text.now c.tokens.rest.now c.in-Some.after.now token i.rest read place.0 place.1)
          (length c.args.text.now - length c.skip_blank-rest-in-tokens.result.now) (omega arith));
      spelled = subst (All IsSpelledToken) (sym pushed) (All-push IsSpelledToken old token i.spelled c.in-Some.ensures.spelled);
    }

pub returns-clause-tokens : goal.returns-clause-tokens
returns-clause-tokens c =
    let none : length c.tokens.rest.now ≡ 0 = eqb-true (length c.tokens.rest.now) 0 (sym c.is_empty.ensures ∙ c.tokens-test.false) in
    left_none c.args.text.now c.tokens.rest.now (map token_of c.tokens.tokens.items) c.tokens.invariant.left (no_chars c.tokens.rest.now none)
