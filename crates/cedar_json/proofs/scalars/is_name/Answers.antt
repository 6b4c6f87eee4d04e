-- The words so far are free ones, so the text is a name where the rest is one.
use Rattle.std.proofs.Common.{◌≡◌, ◌≢◌, ◌<◌, true, false, ◌&&◌, ◌∷◌, ◌++◌, Some, None, length, get_or, drop, ap, sym, ◌∙◌, subst, arith, lit<}
use Rattle.std.specs.Str.{IsUtf8}
use Rattle.std.proofs.lemmas.Bool.Decides.{nat_tests}
use Rattle.std.proofs.lemmas.Str.{lead_after_ascii}
use Rattle.std.proofs.lemmas.Str.Pattern.{split_parts}
use Rattle.cedar_world.specs.Bodies.{is_free_word}
use Rattle.cedar_json.proofs.Spellings.{all_free, spelled_free, ident_is, last_word, first_word, one_colon_none, no_first, opens}
use Rattle.cedar_json.proofs.scalars.is_name.Goals as goal

pub returns-then-is_empty : goal.returns-then-is_empty
returns-then-is_empty c =
    let rest = c.words.rest.now in
    let word = c.in-Some.word in
    let behind = c.in-Some.behind in
    let parts = split_parts 58 rest (Some (word, behind)) c.in-Some.ensures.cases (lit< tt) in
    let empty : length behind.now ≡ 0 = grind (arith, nat_tests) in
    sym (spelled_free c.args.text.now ∙ sym c.words.invariant.1 ∙ one_colon_none rest word.now behind.now parts.0 parts.1 (no_first behind.now empty))

pub returns-then-as_bytes-ne58 : goal.returns-then-as_bytes-ne58
returns-then-as_bytes-ne58 c =
    let rest = c.words.rest.now in
    let word = c.in-Some.word in
    let behind = c.in-Some.behind in
    let parts = split_parts 58 rest (Some (word, behind)) c.in-Some.ensures.cases (lit< tt) in
    let other : get_or behind.now 0 0 ≢ 58 = λ e. absurd (grind (arith, nat_tests)) in
    sym (spelled_free c.args.text.now ∙ sym c.words.invariant.1 ∙ one_colon_none rest word.now behind.now parts.0 parts.1 other)

pub returns-then-not-is_normalized_ident : goal.returns-then-not-is_normalized_ident
returns-then-not-is_normalized_ident c =
    let rest = c.words.rest.now in
    let word = c.in-Some.word in
    let behind = c.in-Some.behind in
    let parts = split_parts 58 rest (Some (word, behind)) c.in-Some.ensures.cases (lit< tt) in
    let some : 0 < length behind.now = grind (arith, nat_tests) in
    let colon : get_or behind.now 0 0 ≡ 58 = grind (arith, nat_tests) in
    let next = drop 1 behind.now in
    let are = parts.0 ∙ ap (λ t. word.now ++ 58 ∷ t) (opens behind.now some colon) in
    let no : c.is_normalized_ident.result ≡ false = grind arith in
    let not_free : is_free_word word.now ≡ false = sym (ident_is c.is_normalized_ident.result word.now c.is_normalized_ident.ensures) ∙ no in
    sym (spelled_free c.args.text.now ∙ sym c.words.invariant.1 ∙ first_word rest word.now next are parts.1 ∙ ap (λ b. b && all_free next) not_free)

pub range_from-rest-requires : goal.range_from-rest-requires
range_from-rest-requires c =
    let behind = c.in-Some.behind.now in
    let some : 0 < length behind = grind (arith, nat_tests) in
    let colon : get_or behind 0 0 ≡ 58 = grind (arith, nat_tests) in
    λ _. (omega arith, λ lt. lead_after_ascii behind 0 (subst IsUtf8 c.as_bytes.ensures.value c.as_bytes.ensures.utf8) (omega arith) lt)

pub words-preserved : goal.words-preserved
words-preserved c =
    let rest = c.words.rest.now in
    let word = c.in-Some.word in
    let behind = c.in-Some.behind in
    let parts = split_parts 58 rest (Some (word, behind)) c.in-Some.ensures.cases (lit< tt) in
    let some : 0 < length behind.now = grind (arith, nat_tests) in
    let colon : get_or behind.now 0 0 ≡ 58 = grind (arith, nat_tests) in
    let next = drop 1 behind.now in
    let are = parts.0 ∙ ap (λ t. word.now ++ 58 ∷ t) (opens behind.now some colon) in
    let yes : c.is_normalized_ident.result ≡ true = grind arith in
    let free : is_free_word word.now ≡ true = sym (ident_is c.is_normalized_ident.result word.now c.is_normalized_ident.ensures) ∙ yes in (
      c.range_from-rest.utf8,
      ap all_free c.range_from-rest.ensures.value ∙ ap (λ b. b && all_free next) (sym free) ∙ sym (first_word rest word.now next are parts.1)
          ∙ c.words.invariant.1,
    )

pub returns : goal.returns
returns c =
    let rest = c.words.rest.now in
    let plain = split_parts 58 rest None c.in_default.ensures.cases (lit< tt) in
    ident_is c.is_normalized_ident-2.result rest c.is_normalized_ident-2.ensures ∙ sym (last_word rest plain) ∙ c.words.invariant.1
    ∙ sym (spelled_free c.args.text.now)
