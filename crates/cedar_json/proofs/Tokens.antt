-- The tokens in front of characters.
use Rattle.std.proofs.Common.{◌≡◌, ℕ, ◌<◌, Bool, true, false, List, [], ◌∷◌, ◌++◌, refl, sym, ap, ◌∙◌, arith}
use Rattle.std.specs.Prelude.{nat_lt, encode_utf8_all, IsUtf8}
use Rattle.std.specs.Char.{is_ascii_digit}
use Rattle.std.specs.List.{list_all}
use Rattle.std.specs.Str.{chars}
use Rattle.std.specs.Str.Parse.{digits_value}
use Rattle.std.proofs.lemmas.Bool.{and_parts}
use Rattle.std.proofs.lemmas.Bool.Decides.{nat_tests}
use Rattle.std.proofs.lemmas.Str.{encode_ascii, chars_from_encodes}
use Rattle.cedar_language.specs.Uid.{Text}
use Rattle.cedar_grammar.specs.Token as token
use Rattle.cedar_grammar.specs.Token.{Mark, Token, word, number, mark, word_of, mark_spelled}
use Rattle.cedar_grammar.specs.Tokens.{colon, begins_word, is_in_word, lengthens, Stops, Run, ends, goes_on, nothing, space, Front, is_word, is_number, is_mark, AreTokens, none, next}

pub behind_space : {cs : List ℕ} (ts : List Token) → AreTokens cs ts → AreTokens (32 ∷ cs) ts
behind_space ts (none b) = none (space 32 refl b)
behind_space ts (next t mid after b front more) = next t mid after (space 32 refl b) front more

pub in_front : (t : Token) (cs rest : List ℕ) (ts : List Token) → Front cs t rest → AreTokens rest ts → AreTokens cs (t ∷ ts)
in_front t cs rest ts front are = next t cs rest nothing front are

-- ---- marks that nothing makes longer

stops_none : (m : Mark) → ((c : ℕ) → lengthens m c ≡ false) → (rest : List ℕ) → Stops (lengthens m) rest
stops_none m alone [] = tt
stops_none m alone (c ∷ cs) = alone c

one_byte : (m : Mark) (b : ℕ) → mark_spelled m ≡ b ∷ [] → ((c : ℕ) → lengthens m c ≡ false) → (rest : List ℕ) → Front (b ∷ rest) (mark m) rest
one_byte m b spelled alone rest = is_mark m (ap (λ x. x ++ rest) (sym spelled)) (stops_none m alone rest)

pub comma : (rest : List ℕ) → Front (44 ∷ rest) (mark token.Comma) rest
comma = one_byte token.Comma 44 refl (λ c. refl)

pub minus_sign : (rest : List ℕ) → Front (45 ∷ rest) (mark token.Minus) rest
minus_sign = one_byte token.Minus 45 refl (λ c. refl)

pub left_paren : (rest : List ℕ) → Front (40 ∷ rest) (mark token.LeftParen) rest
left_paren = one_byte token.LeftParen 40 refl (λ c. refl)

pub right_paren : (rest : List ℕ) → Front (41 ∷ rest) (mark token.RightParen) rest
right_paren = one_byte token.RightParen 41 refl (λ c. refl)

pub left_bracket : (rest : List ℕ) → Front (91 ∷ rest) (mark token.LeftBracket) rest
left_bracket = one_byte token.LeftBracket 91 refl (λ c. refl)

pub right_bracket : (rest : List ℕ) → Front (93 ∷ rest) (mark token.RightBracket) rest
right_bracket = one_byte token.RightBracket 93 refl (λ c. refl)

pub left_brace : (rest : List ℕ) → Front (123 ∷ rest) (mark token.LeftBrace) rest
left_brace = one_byte token.LeftBrace 123 refl (λ c. refl)

pub right_brace : (rest : List ℕ) → Front (125 ∷ rest) (mark token.RightBrace) rest
right_brace = one_byte token.RightBrace 125 refl (λ c. refl)

-- a colon before a space
pub colon_space : (rest : List ℕ) → Front (colon ∷ 32 ∷ rest) (mark token.Colon) (32 ∷ rest)
colon_space rest = is_mark token.Colon refl refl

pub two_colons : (rest : List ℕ) → Front (colon ∷ colon ∷ rest) (mark token.ColonColon) rest
two_colons rest = is_mark token.ColonColon refl (stops_none token.ColonColon (λ c. refl) rest)

-- ---- words and numbers

run_all : (test : ℕ → Bool) (xs rest : List ℕ) → list_all test xs ≡ true → Stops test rest → Run test (xs ++ rest) xs rest
run_all test [] rest h stop = ends stop
run_all test (x ∷ xs) rest h stop = let both = and_parts (test x) (list_all test xs) h in goes_on x both.0 (run_all test xs rest both.1 stop)

pub word_front : (c : ℕ) (cs rest : List ℕ) → begins_word c ≡ true → list_all is_in_word cs ≡ true → Stops is_in_word rest
    → Front (c ∷ (cs ++ rest)) (word (word_of (c ∷ cs))) rest
word_front c cs rest first others stop = is_word c first (run_all is_in_word cs rest others stop)

no_digit : (c : ℕ) → is_in_word c ≡ false → is_ascii_digit c ≡ false
no_digit c e = grind (arith, nat_tests)

digit_stops : (rest : List ℕ) → Stops is_in_word rest → Stops is_ascii_digit rest
digit_stops [] stop = tt
digit_stops (c ∷ cs) stop = no_digit c stop

pub digits_front : (c : ℕ) (cs rest : List ℕ) → is_ascii_digit c ≡ true → list_all is_ascii_digit cs ≡ true → Stops is_in_word rest
    → Front (c ∷ (cs ++ rest)) (number (digits_value 10 (c ∷ cs))) rest
digits_front c cs rest first others stop = is_number c first (run_all is_ascii_digit cs rest others (digit_stops rest stop))

-- ---- texts of ASCII characters

abbrev pub is_small : ℕ → Bool
is_small c = nat_lt c 128

pub word_small : (c : ℕ) → is_in_word c ≡ true → is_small c ≡ true
word_small c e = grind (arith, nat_tests)

pub digit_small : (c : ℕ) → is_ascii_digit c ≡ true → is_small c ≡ true
digit_small c e = grind (arith, nat_tests)

pub first_in_word : (c : ℕ) → begins_word c ≡ true → is_in_word c ≡ true
first_in_word c e = grind (arith, nat_tests)

pub all_weaker : (p q : ℕ → Bool) → ((c : ℕ) → p c ≡ true → q c ≡ true) → (cs : List ℕ) → list_all p cs ≡ true → list_all q cs ≡ true
all_weaker p q f [] h = refl
all_weaker p q f (c ∷ cs) h = let both = and_parts (p c) (list_all p cs) h in rw (f c both.0) (all_weaker p q f cs both.1)

pub all_append : (p : ℕ → Bool) (xs ys : List ℕ) → list_all p xs ≡ true → list_all p ys ≡ true → list_all p (xs ++ ys) ≡ true
all_append p [] ys f g = g
all_append p (x ∷ xs) ys f g = let both = and_parts (p x) (list_all p xs) f in rw (both.0) (all_append p xs ys both.1 g)

small_is : (c : ℕ) → is_small c ≡ true → c < 128
small_is c e = grind (arith, nat_tests)

pub encodes_small : (s : Text) → list_all is_small s ≡ true → encode_utf8_all s ≡ s
encodes_small [] h = refl
encodes_small (c ∷ cs) h =
    let both = and_parts (is_small c) (list_all is_small cs) h in
    ap (λ x. x ++ encode_utf8_all cs) (encode_ascii c (small_is c both.0)) ∙ ap (λ x. c ∷ x) (encodes_small cs both.1)

-- its bytes are its characters
pub small_chars : (s : Text) → IsUtf8 s → list_all is_small s ≡ true → chars s ≡ s
small_chars s u h = sym (chars_from_encodes s s u (encodes_small s h))
