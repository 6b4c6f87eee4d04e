-- Runs of ASCII bytes are runs of characters.
use Rattle.std.proofs.Common.{◌≡◌, ℕ, suc, ◌<◌, ◌≤◌, Bool, true, false, true≢false, List, [], ◌∷◌, ◌++◌, length, take, drop, refl, sym, ap, ◌∙◌, subst, arith}
use Rattle.std.specs.Prelude.{cond, encode_utf8, encode_utf8_all}
use Rattle.std.specs.Char.{is_ascii_digit, is_whitespace}
use Rattle.std.specs.Str.{chars, IsUtf8}
use Rattle.std.proofs.lemmas.Bool.Decides.{nat_tests}
use Rattle.std.proofs.lemmas.Str.{encode_ascii, chars_past_char, IsUtf8-past_char, encodes-chars, byte_from_char, chars-nil}
use Rattle.cedar_grammar.specs.Tokens.{begins_word, is_in_word, Stops, Run, ends, goes_on}
use Rattle.cedar_data.specs.Runs.{run_length, is_blank}

-- an ASCII byte is a character, and what follows it is a text
pub record Begins (b : ℕ) (bs : List ℕ) : Type 0 where
  pub characters : chars (b ∷ bs) ≡ b ∷ chars bs
  pub utf8 : IsUtf8 bs

pub begins : (b : ℕ) (bs : List ℕ) → b < 128 → IsUtf8 (b ∷ bs) → Begins b bs
begins b bs small u =
    let bytes : b ∷ bs ≡ encode_utf8 b ++ bs = ap (λ x. x ++ bs) (sym (encode_ascii b small)) in
    record { characters = chars_past_char (b ∷ bs) bs b u bytes; utf8 = IsUtf8-past_char (b ∷ bs) bs b u bytes }

-- ---- tests that ASCII characters alone pass

abbrev pub IsAsciiTest : (ℕ → Bool) → Type 0
IsAsciiTest test = (c : ℕ) → test c ≡ true → c < 128

pub blanks_ascii : IsAsciiTest is_blank
blanks_ascii c e = grind (arith, nat_tests)

pub words_ascii : IsAsciiTest is_in_word
words_ascii c e = grind (arith, nat_tests)

pub digits_ascii : IsAsciiTest is_ascii_digit
digits_ascii c e = grind (arith, nat_tests)

pub blank_white : (c : ℕ) → is_blank c ≡ true → is_whitespace c ≡ true
blank_white c e = grind (arith, nat_tests)

pub word_first : (c : ℕ) → begins_word c ≡ true → is_in_word c ≡ true
word_first c e = grind (arith, nat_tests)

-- ---- runs

-- where the first byte fails the test, so does the first character
character_fails : (test : ℕ → Bool) → IsAsciiTest test → (b c : ℕ) (bs ds : List ℕ) → test b ≡ false → encode_utf8 c ++ ds ≡ b ∷ bs → (t : Bool) → test c ≡ t → test c ≡ false
character_fails test ascii b c bs ds fails e false h = h
character_fails test ascii b c bs ds fails e true h =
    let same : b ≡ c = byte_from_char (b ∷ bs) ds c (sym e) (ascii c h) in
    absurd (true≢false (sym h ∙ ap test (sym same) ∙ fails))

pub stops : (test : ℕ → Bool) → IsAsciiTest test → (b : ℕ) (bs : List ℕ) → test b ≡ false → IsUtf8 (b ∷ bs) → Stops test (chars (b ∷ bs))
stops test ascii b bs fails u = by (chars (b ∷ bs)) (encodes-chars (b ∷ bs) u)
  where
    by : (cs : List ℕ) → encode_utf8_all cs ≡ b ∷ bs → Stops test cs
    by [] e = tt
    by (c ∷ cs) e = character_fails test ascii b c bs (encode_utf8_all cs) fails e (test c) refl

-- so many bytes are a run of characters
pub record RunOf (test : ℕ → Bool) (bs : List ℕ) (n : ℕ) : Type 0 where
  pub within : n ≤ length bs
  pub run : Run test (chars bs) (take n bs) (chars (drop n bs))
  pub utf8 : IsUtf8 (drop n bs)

pub run_bytes : (test : ℕ → Bool) → IsAsciiTest test → (bs : List ℕ) → IsUtf8 bs → RunOf test bs (run_length test bs)
run_bytes test ascii [] u = record { within = omega arith; run = ends (subst (Stops test) (sym chars-nil) tt); utf8 = u }
run_bytes test ascii (b ∷ bs) u = by (λ v. run_bytes test ascii bs v) (test b) refl
  where
    more : (IsUtf8 bs → RunOf test bs (run_length test bs)) → test b ≡ true → RunOf test (b ∷ bs) (suc (run_length test bs))
    more others passes =
        let first = begins b bs (ascii b passes) u in
        let rest = others first.utf8 in
        record {
          within = let short = rest.within in omega arith;
          run = subst (λ cs. Run test cs (b ∷ take (run_length test bs) bs) (chars (drop (run_length test bs) bs))) (sym first.characters) (goes_on b passes rest.run);
          utf8 = rest.utf8;
        }

    by : (IsUtf8 bs → RunOf test bs (run_length test bs)) → (t : Bool) → test b ≡ t → RunOf test (b ∷ bs) (cond t (suc (run_length test bs)) 0)
    by others true passes = more others passes
    by others false fails = record { within = omega arith; run = ends (stops test ascii b bs fails u); utf8 = u }
