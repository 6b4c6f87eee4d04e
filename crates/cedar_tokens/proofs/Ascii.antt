-- Runs of ASCII characters.
use Rattle.std.proofs.Common.{◌≡◌, ℕ, zero, suc, ◌<◌, Bool, true, false, ◌&&◌, List, [], ◌∷◌, refl, sym, ap, ◌∙◌, subst, arith}
use Rattle.std.specs.Char.{digit_value, is_ascii_digit}
use Rattle.std.specs.Str.{chars, IsUtf8, IsAscii}
use Rattle.std.proofs.lemmas.Bool.Decides.{nat_tests}
use Rattle.std.proofs.lemmas.Str.{encodes-IsAscii, encodes-chars}
use Rattle.std.specs.List.{list_all}
use Rattle.std.specs.Str.Parse.{AllDigits, IsNumeral}
use Rattle.cedar_tokens.specs.Spelling.{is_word}
use Rattle.cedar_tokens.proofs.Runs.{run-pass}
use Rattle.cedar_grammar.specs.Tokens.{begins_word, is_in_word, run_of}

-- a test that ASCII characters alone pass
abbrev pub IsAsciiTest : (ℕ → Bool) → Type 0
IsAsciiTest test = (c : ℕ) → test c ≡ true → c < 128

run-ascii : (test : ℕ → Bool) → IsAsciiTest test → (cs : List ℕ) → IsAscii (run_of test cs).0
unfolding run_of
run-ascii test f [] zero = omega arith
run-ascii test f [] (suc i) = omega arith
run-ascii test f (c ∷ cs) i = by (run-ascii test f cs) (test c) refl i
  where
    by : IsAscii (run_of test cs).0 → (b : Bool) → test c ≡ b → IsAscii (run_of test (c ∷ cs)).0
    by ih true e zero = rw (e, run_of) (f c e)
    by ih true e (suc j) = rw (e, run_of) (ih j)
    by ih false e zero = rw (e, run_of) (omega arith)
    by ih false e (suc j) = rw (e, run_of) (omega arith)

-- a run of ASCII characters is its bytes
pub chars-run : (test : ℕ → Bool) → IsAsciiTest test → (cs run rest : List ℕ) → IsUtf8 run → run_of test cs ≡ (chars run, rest) → chars run ≡ run
chars-run test f cs run rest u e =
    let ascii : IsAscii (chars run) = subst IsAscii (ap (λ r. r.0) e) (run-ascii test f cs) in
    sym (encodes-IsAscii (chars run) ascii) ∙ encodes-chars run u

pub digits-ascii : IsAsciiTest is_ascii_digit
digits-ascii c e = grind (arith, nat_tests)

pub words-ascii : IsAsciiTest is_in_word
words-ascii c e = grind (arith, nat_tests)

pub begins-in : (c : ℕ) → begins_word c ≡ true → is_in_word c ≡ true
begins-in c e = grind (arith, nat_tests)

pub begins-no_digit : (c : ℕ) → begins_word c ≡ true → is_ascii_digit c ≡ false
begins-no_digit c e = grind (arith, nat_tests)

pub run-pass_all : (test : ℕ → Bool) (cs : List ℕ) → list_all test (run_of test cs).0 ≡ true
unfolding run_of
run-pass_all test [] = refl
run-pass_all test (c ∷ cs) = by (run-pass_all test cs) (test c) refl
  where
    by : list_all test (run_of test cs).0 ≡ true → (b : Bool) → test c ≡ b → list_all test (run_of test (c ∷ cs)).0 ≡ true
    by ih true e = ap (λ r. list_all test r.0) (run-pass test c cs e) ∙ ap (λ b. b && list_all test (run_of test cs).0) e ∙ ih
    by ih false e = rw (e, run_of)

digit-value : (c : ℕ) → is_ascii_digit c ≡ true → digit_value c < 10
digit-value c e = grind (arith, nat_tests)

pub digits-all : (cs : List ℕ) → AllDigits 10 (run_of is_ascii_digit cs).0
unfolding run_of
digits-all [] = tt
digits-all (c ∷ cs) = by (digits-all cs) (is_ascii_digit c) refl
  where
    by : AllDigits 10 (run_of is_ascii_digit cs).0 → (b : Bool) → is_ascii_digit c ≡ b → AllDigits 10 (run_of is_ascii_digit (c ∷ cs)).0
    by ih true e = rw (e, run_of) (digit-value c e, ih)
    by ih false e = rw (e, run_of) tt

pub numeral : (c : ℕ) (cs : List ℕ) → is_ascii_digit c ≡ true → IsNumeral 10 (c ∷ (run_of is_ascii_digit cs).0)
numeral c cs e = (omega arith, (digit-value c e, digits-all cs))

pub word_text : (c : ℕ) (cs : List ℕ) → begins_word c ≡ true → is_word (c ∷ (run_of is_in_word cs).0) ≡ true
word_text c cs e = rw (e, run-pass_all is_in_word cs)
