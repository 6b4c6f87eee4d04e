-- Behind white space stands the first token or nothing, and behind that token stand the others.
use Rattle.std.proofs.Common.{ℕ, List, ◌≡◌, [], Some, sym, ap, ◌∙◌, subst}
use Rattle.std.specs.Prelude.{IsSome}
use Rattle.std.specs.Str.{chars}
use Rattle.cedar_grammar.specs.Token.{Token}
use Rattle.cedar_grammar.specs.Tokens.{after_blank, token_read, tokens_of}
use Rattle.cedar_tokens.specs.Marks.{StartsNoComment}
use Rattle.cedar_tokens.specs.Unread.{Unread, all_tokens, next_and_others}
use Rattle.cedar_tokens.proofs.Rests.{rest_rest}
use Rattle.cedar_tokens.proofs.Blanks.{blank-no_comment}
use Rattle.cedar_tokens.proofs.Reading.{stands}
use Rattle.cedar_tokens.proofs.Unread.{next_read, none_read, end_some}
use Rattle.cedar_tokens.proofs.reader.Tokens.of.Goals as goal
use Rattle.cedar_tokens.proofs.reader.Tokens.of.Goals.{In-Some, In_default}

abbrev unread_of : List ℕ → List Token → Unread
unread_of text ts = record { text = text; left = ts }

pub read_token-requires-clause-visible : goal.read_token-requires-clause-visible
read_token-requires-clause-visible c = subst StartsNoComment (sym c.skip_blank-rest.ensures.blank) (blank-no_comment (chars c.args.rest.now))

none : (c : In_default) → (after_blank (chars c.args.rest.now) ≡ []) × ([] ≡ all_tokens (chars c.args.rest.now))
none c = none_read (chars c.args.rest.now) c.requires.readable (ap token_read (sym c.skip_blank-rest.ensures.blank) ∙ c.in_default.ensures.token)

some : (c : In-Some) → IsSome (tokens_of (chars c.in-Some.after.now)) × (next_and_others (Some c.in-Some.token) (chars c.in-Some.after.now) ≡ all_tokens (chars c.args.rest.now))
some c = next_read (chars c.args.rest.now) (chars c.in-Some.after.now) c.in-Some.token c.requires.readable (ap token_read (sym c.skip_blank-rest.ensures.blank) ∙ c.in-Some.ensures.token.token)

pub invariant_of-result : goal.invariant_of-result
invariant_of-result c =
    let skipped = c.skip_blank-rest.ensures in
    let end = skipped.blank ∙ (none (goal.at.invariant_of-result c).In_default).0 in
    record {
      cut = rest_rest c.args.text.now c.args.rest.now c.skip_blank-rest.result.now c.requires.cut skipped.rest;
      tokens = end_some (chars c.skip_blank-rest.result.now) end;
      first = end;
    }

pub returns-in_default : goal.returns-in_default
returns-in_default c = ap (unread_of c.args.text.now) (none (goal.at.returns-in_default c).In_default).1

pub invariant_of-result-2 : goal.invariant_of-result-2
invariant_of-result-2 c =
    let skipped = c.skip_blank-rest.ensures in
    let rest = c.skip_blank-rest.result.now in
    let cut = rest_rest c.args.text.now c.args.rest.now rest c.requires.cut skipped.rest in
    record {
      cut = rest_rest c.args.text.now rest c.in-Some.after.now cut c.in-Some.ensures.token.cut;
      tokens = (some (goal.at.invariant_of-result-2 c).In-Some).0;
      first = (stands c.args.text.now rest c.in-Some.after.now c.in-Some.token cut c.in-Some.ensures.token c.in-Some.ensures.place.0 c.in-Some.ensures.place.1, c.in-Some.ensures.spelled);
    }

pub returns : goal.returns
returns c = ap (unread_of c.args.text.now) (some (goal.at.returns c).In-Some).1
