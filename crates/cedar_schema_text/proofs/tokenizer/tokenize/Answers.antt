-- The tokens passed and those of the rest are those of the text; where a rest begins with none, the text has none.
use Rattle.std.proofs.Common.{◌≡◌, length, sym, ap, ◌∙◌, subst, arith}
use Rattle.std.specs.Prelude.{map, All}
use Rattle.std.specs.Str.{chars}
use Rattle.std.proofs.lemmas.List.{map-append}
use Rattle.std.proofs.lemmas.List.Elements.{All-nil, All-push}
use Rattle.std.proofs.lemmas.Bool.{eqb-true, eqb-false}
use Rattle.cedar_schema_text.specs.View.{token_of}
use Rattle.cedar_schema_text.specs.Reads.{front_read}
use Rattle.cedar_schema_text.specs.Places.{StandsIn}
use Rattle.cedar_tokens.proofs.Rests.{rest_rest, chars-some, no_chars}
use Rattle.cedar_schema_text.proofs.Reading.{Left, left_all, left_more, left_none, left_stuck}
use Rattle.cedar_schema_text.proofs.tokenizer.tokenize.Goals as goal

pub tokens-init : goal.tokens-init
tokens-init c =
    let skipped = c.skip_blank-rest.ensures in
    record {
      utf8 = skipped.rest.utf8;
      rest = skipped.rest;
      left = subst (Left c.args.text.now c.skip_blank-rest.result.now) (sym (ap (map token_of) c.new-tokens.ensures.items)) (left_all c.args.text.now c.skip_blank-rest.result.now c.utf8.text skipped.rest skipped.blank);
      placed = subst (All (StandsIn c.args.text.now)) (sym c.new-tokens.ensures.items) (All-nil (StandsIn c.args.text.now));
    }

pub returns-in_default-clause-refused : goal.returns-in_default-clause-refused
returns-in_default-clause-refused c =
    let i = c.tokens.invariant in
    let some : length c.tokens.rest.now ≡ 0 → ⊥ = eqb-false (length c.tokens.rest.now) 0 (sym c.is_empty.ensures ∙ c.tokens-test.true) in
    let short = i.rest.short in
    record {
      inside = omega arith;
      stuck = ap (λ x. front_read (chars x)) i.rest.bytes ∙ c.in_default.ensures;
      no_tokens = left_stuck c.args.text.now c.tokens.rest.now (map token_of c.tokens.tokens.items) i.left (chars-some c.tokens.rest.now i.rest.utf8 (omega arith)) c.in_default.ensures;
    }

pub tokens-preserved : goal.tokens-preserved
tokens-preserved c =
    let i = c.tokens.invariant in
    let read = c.in-Some.ensures in
    let skipped = c.skip_blank-rest-in-tokens.ensures in
    let old = c.tokens.tokens.items in
    let pushed = c.in_ok-push.ensures.items in
    let some : length c.tokens.rest.now ≡ 0 → ⊥ = eqb-false (length c.tokens.rest.now) 0 (sym c.is_empty.ensures ∙ c.tokens-test.true) in
    let short = i.rest.short in
    record {
      utf8 = skipped.rest.utf8;
      rest = rest_rest c.args.text.now c.tokens.rest.now c.skip_blank-rest-in-tokens.result.now i.rest (rest_rest c.tokens.rest.now c.in-Some.after.now c.skip_blank-rest-in-tokens.result.now read.cut skipped.rest);
      left =
          subst (Left c.args.text.now c.skip_blank-rest-in-tokens.result.now) (sym (ap (map token_of) pushed ∙ map-append token_of old _))
          (left_more c.args.text.now c.tokens.rest.now c.in-Some.after.now c.skip_blank-rest-in-tokens.result.now (map token_of old) _ i.left i.rest.utf8 read skipped.rest skipped.blank);
      placed =
          subst (All (StandsIn c.args.text.now)) (sym pushed)
          (All-push (StandsIn c.args.text.now) old _ i.placed
          (record { inside = omega arith; rest = chars c.in-Some.after.now; read = ap (λ x. front_read (chars x)) i.rest.bytes ∙ read.token }));
    }

pub returns-clause-tokens : goal.returns-clause-tokens
returns-clause-tokens c =
    let none : length c.tokens.rest.now ≡ 0 = eqb-true (length c.tokens.rest.now) 0 (sym c.is_empty.ensures ∙ c.tokens-test.false) in
    left_none c.args.text.now c.tokens.rest.now (map token_of c.tokens.tokens.items) c.tokens.invariant.left (no_chars c.tokens.rest.now none)
