-- The tokens at the start of a text.
use Rattle.std.proofs.Common.{◌≡◌, ℕ, suc, ◌<◌, ◌≤◌, Bool, true, false, List, [], ◌∷◌, ◌++◌, length, take, drop, get_or, length-drop, refl, sym, ap, ◌∙◌, subst, arith, lt_of_not-le}
use Rattle.std.specs.Prelude.{cond, ◌==◌}
use Rattle.std.specs.Char.{is_ascii_digit}
use Rattle.std.specs.Str.{chars, IsUtf8, IsCharBoundary}
use Rattle.std.specs.Str.Parse.{digits_value, without_leading_plus}
use Rattle.std.proofs.lemmas.Bool.{eqb-true, ne_eqb}
use Rattle.std.proofs.lemmas.List.{get_or_past}
use Rattle.std.proofs.lemmas.Str.{chars-nil, IsCharBoundary-after_ascii}
use Rattle.cedar_grammar.specs.Token as token
use Rattle.cedar_grammar.specs.Token.{Mark, Token, word, number, mark, word_of, mark_spelled}
use Rattle.cedar_grammar.specs.Tokens.{colon, begins_word, is_in_word, lengthens, Stops, Run, ends, goes_on, nothing, space, Front, is_word, is_number, is_mark, AreTokens, none, next}
use Rattle.cedar_data.specs.declared.texts.Sign.{Sign}
use Rattle.cedar_data.specs.declared.texts.Sign.TheVariants as sign
use Rattle.cedar_data.specs.Classes.{mark_of}
use Rattle.cedar_data.specs.Runs.{run_length, is_blank}
use Rattle.cedar_data.specs.Takes.{Skips, Takes}
use Rattle.cedar_data.proofs.Ascii.{begins, IsAsciiTest, blanks_ascii, words_ascii, digits_ascii, blank_white, word_first, stops, run_bytes}

-- ---- white space

spaced : (c : ℕ) {cs : List ℕ} (ts : List Token) → is_blank c ≡ true → AreTokens cs ts → AreTokens (c ∷ cs) ts
spaced c ts blank (none b) = none (space c (blank_white c blank) b)
spaced c ts blank (next t mid after b front more) = next t mid after (space c (blank_white c blank) b) front more

white_before : {cs white rest : List ℕ} (ts : List Token) → Run is_blank cs white rest → AreTokens rest ts → AreTokens cs ts
white_before ts (ends stop) are = are
white_before ts (goes_on c blank run) are = spaced c ts blank (white_before ts run are)

shorter_rest : (n : ℕ) (bs : List ℕ) → length (drop n bs) ≤ length bs
shorter_rest n bs = omega (arith, length-drop n bs)

pub skips : (bs : List ℕ) → IsUtf8 bs → Skips bs (drop (run_length is_blank bs) bs)
skips bs u =
    let white = run_bytes is_blank blanks_ascii bs u in
    record { tokens = λ ts are. white_before ts white.run are; short = shorter_rest (run_length is_blank bs) bs; utf8 = white.utf8 }

-- white space behind a token
pub takes_skips : (t : Token) (bs mid rest : List ℕ) → Takes t bs mid → Skips mid rest → Takes t bs rest
takes_skips t bs mid rest takes skipped =
    record {
      tokens = λ ts are. takes.tokens ts (skipped.tokens ts are);
      shorter = let one = takes.shorter in let two = skipped.short in omega arith;
      utf8 = skipped.utf8;
    }

-- ---- places

-- a byte that isn't 0 stands in the text
pub some_at : (bs : List ℕ) (i : ℕ) → 0 < get_or bs i 0 → i < length bs
some_at bs i some = lt_of_not-le (λ past. let none = get_or_past bs i 0 past in omega arith)

pub after_first : (bs : List ℕ) → IsUtf8 bs → 0 < get_or bs 0 0 → get_or bs 0 0 < 128 → IsCharBoundary bs 1
after_first bs u some small = IsCharBoundary-after_ascii bs 0 u (some_at bs 0 some) small

-- ---- tokens

-- the token in front of the characters is one of the text
pub in_front : (t : Token) (bs rest : List ℕ) → Front (chars bs) t (chars rest) → length rest < length bs → IsUtf8 rest → Takes t bs rest
in_front t bs rest front short u = record { tokens = λ ts are. next t (chars bs) (chars rest) nothing front are; shorter = short; utf8 = u }

-- the bytes from the first on that pass the test are so many, where the first does
first_passes : (test : ℕ → Bool) (b : ℕ) (bs : List ℕ) → test b ≡ true → run_length test (b ∷ bs) ≡ suc (run_length test bs)
first_passes test b bs passes = ap (λ t. cond t (suc (run_length test bs)) 0) passes

behind : (b n : ℕ) (bs : List ℕ) → length (drop n bs) < length (b ∷ bs)
behind b n bs = let short = shorter_rest n bs in omega arith

-- a run of ASCII characters whose first one passes
first_run : (test : ℕ → Bool) → IsAsciiTest test → (as_token : List ℕ → Token) (b : ℕ) (bs : List ℕ) → test b ≡ true → IsUtf8 (b ∷ bs)
    → ((more rest : List ℕ) → Run test (chars bs) more rest → Front (b ∷ chars bs) (as_token (b ∷ more)) rest)
    → Takes (as_token (take (run_length test (b ∷ bs)) (b ∷ bs))) (b ∷ bs) (drop (run_length test (b ∷ bs)) (b ∷ bs))
first_run test ascii as_token b bs passes u front =
    let head = begins b bs (ascii b passes) u in
    let more = run_bytes test ascii bs head.utf8 in
    let n = run_length test bs in
    let here : Front (chars (b ∷ bs)) (as_token (b ∷ take n bs)) (chars (drop n bs)) =
    subst (λ cs. Front cs (as_token (b ∷ take n bs)) (chars (drop n bs))) (sym head.characters) (front (take n bs) (chars (drop n bs)) more.run)
    in
    subst (λ m. Takes (as_token (take m (b ∷ bs))) (b ∷ bs) (drop m (b ∷ bs))) (sym (first_passes test b bs passes))
    (in_front (as_token (b ∷ take n bs)) (b ∷ bs) (drop n bs) here (behind b n bs) more.utf8)

pub takes_word : (bs : List ℕ) → IsUtf8 bs → begins_word (get_or bs 0 0) ≡ true → Takes (word (word_of (take (run_length is_in_word bs) bs))) bs (drop (run_length is_in_word bs) bs)
takes_word [] u first = absurd (cc first)
takes_word (b ∷ bs) u first = first_run is_in_word words_ascii (λ s. word (word_of s)) b bs (word_first b first) u (λ more rest run. is_word b first run)

pub takes_digits : (bs : List ℕ) → IsUtf8 bs → is_ascii_digit (get_or bs 0 0) ≡ true
    → Takes (number (digits_value 10 (take (run_length is_ascii_digit bs) bs))) bs (drop (run_length is_ascii_digit bs) bs)
takes_digits [] u first = absurd (cc first)
takes_digits (b ∷ bs) u first = first_run is_ascii_digit digits_ascii (λ s. number (digits_value 10 s)) b bs first u (λ more rest run. is_number b first run)

-- the first byte of a run is that of the text
pub first_kept : (test : ℕ → Bool) (bs : List ℕ) → test (get_or bs 0 0) ≡ true → get_or (take (run_length test bs) bs) 0 0 ≡ get_or bs 0 0
first_kept test [] passes = refl
first_kept test (b ∷ bs) passes = ap (λ n. get_or (take n (b ∷ bs)) 0 0) (first_passes test b bs passes)

pub no_plus : (bs : List ℕ) → is_ascii_digit (get_or bs 0 0) ≡ true → without_leading_plus bs ≡ bs
no_plus bs first =
    let other : get_or bs 0 0 ≡ 43 → ⊥ = λ e. let no : true ≡ false = sym first ∙ ap is_ascii_digit e in cc in
    ap (λ t. drop (cond t 1 0) bs) (ne_eqb (get_or bs 0 0) 43 other)

-- ---- marks

-- a mark of one byte
one_byte : (m : Mark) (b : ℕ) (bs : List ℕ) → mark_spelled m ≡ b ∷ [] → b < 128 → IsUtf8 (b ∷ bs) → (IsUtf8 bs → Stops (lengthens m) (chars bs)) → Takes (mark m) (b ∷ bs) bs
one_byte m b bs spelled small u alone =
    let head = begins b bs small u in
    in_front (mark m) (b ∷ bs) bs (is_mark m (head.characters ∙ ap (λ x. x ++ chars bs) (sym spelled)) (alone head.utf8)) (omega arith) head.utf8

-- nothing makes a longer mark of it
lone : (s : Sign) (cs : List ℕ) → Stops (lengthens (mark_of s)) cs
lone s [] = tt
lone sign.LeftParen (c ∷ cs) = refl
lone sign.RightParen (c ∷ cs) = refl
lone sign.LeftBracket (c ∷ cs) = refl
lone sign.RightBracket (c ∷ cs) = refl
lone sign.LeftBrace (c ∷ cs) = refl
lone sign.RightBrace (c ∷ cs) = refl
lone sign.Comma (c ∷ cs) = refl
lone sign.Minus (c ∷ cs) = refl

-- it is no 0, and ASCII
sign_byte : (s : Sign) (b : ℕ) → mark_spelled (mark_of s) ≡ b ∷ [] → (0 < b) × (b < 128)
sign_byte sign.LeftParen b e = let same : 40 ≡ b = cc e in (omega arith, omega arith)
sign_byte sign.RightParen b e = let same : 41 ≡ b = cc e in (omega arith, omega arith)
sign_byte sign.LeftBracket b e = let same : 91 ≡ b = cc e in (omega arith, omega arith)
sign_byte sign.RightBracket b e = let same : 93 ≡ b = cc e in (omega arith, omega arith)
sign_byte sign.LeftBrace b e = let same : 123 ≡ b = cc e in (omega arith, omega arith)
sign_byte sign.RightBrace b e = let same : 125 ≡ b = cc e in (omega arith, omega arith)
sign_byte sign.Comma b e = let same : 44 ≡ b = cc e in (omega arith, omega arith)
sign_byte sign.Minus b e = let same : 45 ≡ b = cc e in (omega arith, omega arith)

pub takes_sign : (s : Sign) (b : ℕ) (bs : List ℕ) → mark_spelled (mark_of s) ≡ b ∷ [] → IsUtf8 bs → get_or bs 0 0 ≡ b → Takes (mark (mark_of s)) bs (drop 1 bs)
takes_sign s b [] spelled u first = let some = (sign_byte s b spelled).0 in absurd (omega arith)
takes_sign s b (c ∷ cs) spelled u first =
    let small = (sign_byte s b spelled).1 in
    one_byte (mark_of s) c cs (spelled ∙ ap (λ x. x ∷ []) (sym first)) (omega arith) u (λ v. lone s (chars cs))

pub sign_boundary : (s : Sign) (b : ℕ) (bs : List ℕ) → mark_spelled (mark_of s) ≡ b ∷ [] → IsUtf8 bs → get_or bs 0 0 ≡ b → IsCharBoundary bs 1
sign_boundary s b bs spelled u first = let is = sign_byte s b spelled in after_first bs u (omega arith) (omega arith)

colons_ascii : IsAsciiTest (λ c. c == colon)
colons_ascii c e = let same : c ≡ colon = eqb-true c colon e in omega arith

pub takes_colon : (bs : List ℕ) → IsUtf8 bs → get_or bs 0 0 ≡ colon → (get_or bs 1 0 ≡ colon → ⊥) → Takes (mark token.Colon) bs (drop 1 bs)
takes_colon [] u first second = absurd (omega arith)
takes_colon (c ∷ []) u first second = one_byte token.Colon c [] (ap (λ x. x ∷ []) (sym first)) (omega arith) u (λ v. subst (Stops (λ x. x == colon)) (sym chars-nil) tt)
takes_colon (c ∷ d ∷ ds) u first second =
    one_byte token.Colon c (d ∷ ds) (ap (λ x. x ∷ []) (sym first)) (omega arith) u (λ v. stops (λ x. x == colon) colons_ascii d ds (ne_eqb d colon second) v)

two_colons : (cs : List ℕ) → Stops (lengthens token.ColonColon) cs
two_colons [] = tt
two_colons (c ∷ cs) = refl

pub takes_separator : (bs : List ℕ) → IsUtf8 bs → get_or bs 0 0 ≡ colon → get_or bs 1 0 ≡ colon → Takes (mark token.ColonColon) bs (drop 2 bs)
takes_separator [] u first second = absurd (omega arith)
takes_separator (c ∷ []) u first second = absurd (omega arith)
takes_separator (c ∷ d ∷ ds) u first second =
    let head = begins c (d ∷ ds) (omega arith) u in
    let more = begins d ds (omega arith) head.utf8 in
    let characters : chars (c ∷ d ∷ ds) ≡ colon ∷ colon ∷ chars ds =
    head.characters ∙ ap (λ cs. c ∷ cs) more.characters ∙ ap (λ x. x ∷ d ∷ chars ds) first ∙ ap (λ x. colon ∷ x ∷ chars ds) second
    in
    in_front (mark token.ColonColon) (c ∷ d ∷ ds) ds (is_mark token.ColonColon characters (two_colons (chars ds))) (omega arith) more.utf8

pub separator_boundary : (bs : List ℕ) → IsUtf8 bs → get_or bs 0 0 ≡ colon → get_or bs 1 0 ≡ colon → IsCharBoundary bs 2
separator_boundary bs u first second = IsCharBoundary-after_ascii bs 1 u (some_at bs 1 (omega arith)) (omega arith)
