-- The forms in which a character stands between quotes, and that no two characters stand so alike.
use Rattle.std.proofs.Common.{◌≡◌, ◌≢◌, ℕ, zero, suc, get_or, ◌+◌, ◌-◌, ◌*◌, ◌/◌, ◌%◌, ◌<◌, ◌≤◌, ◌==◌, ◌||◌, Bool, true, false, if◌then◌else◌, nat_lt, [], ◌∷◌, Option, Some, None, ◌++◌, length, ◌⊎◌, inl, inr, refl, sym, ap, ◌∙◌, subst, arith, append_assoc, append-nil, length-append, codes}
use Rattle.std.specs.Prelude.{encode_utf8, slice_index_or, MatchOption}
use Rattle.std.specs.Fmt.{digits, digit_glyph}
use Rattle.std.proofs.lemmas.Bool.{false≢true, ltb-true, ltb-false, lt-ltb, le-ltb, eqb-true, ne_eqb}
use Rattle.std.proofs.lemmas.Fmt.{hex_one_digit, hex_two_digits}
use Rattle.std.proofs.lemmas.List.{append_cancel_right}
use Rattle.std.proofs.lemmas.Str.{encode_ascii, encode_same, length-encode, len_utf8_bounds}
use denote.Ref.{Bor}
use Rattle.std.proofs.lemmas.Str.Pattern.{IsSplitOnceResult, split_after, split_parts}
use Rattle.cedar_language.specs.Uid.{Text}
use Rattle.cedar_literals.specs.Escapes.{is_control, escaped_char, unicode_escape}
use Rattle.cedar_literals.specs.Unescaping.{BeginsWith}

pub test : (b : Bool) → (b ≡ true) ⊎ (b ≡ false)
test true = inl refl
test false = inr refl

-- the character that a backslash stands before
abbrev pub unnamed : ℕ → ℕ
unnamed e = if e == 48 then 0 else if e == 116 then 9 else if e == 110 then 10 else if e == 114 then 13 else e

abbrev pub is_name : ℕ → Bool
is_name e = e == 48 || (e == 116 || (e == 110 || (e == 114 || (e == 34 || (e == 39 || e == 92)))))

abbrev pub has_name : ℕ → Bool
has_name c = c == 0 || (c == 9 || (c == 10 || c == 13))

abbrev pub is_quote : ℕ → Bool
is_quote c = c == 34 || (c == 39 || c == 92)

pub data Form (c : ℕ) : Type 0 where
  by_name : (e : ℕ) → escaped_char c ≡ 92 ∷ e ∷ [] → is_name e ≡ true → unnamed e ≡ c → Form c
  by_code : escaped_char c ≡ unicode_escape c → is_control c ≡ true → has_name c ≡ false → Form c
  as_it_is : escaped_char c ≡ encode_utf8 c → is_control c ≡ false → is_quote c ≡ false → Form c

pub forms : (c : ℕ) → Form c
forms c =
    elim (test (c == 0)) [
      | inl h ↦ rw (eqb-true c 0 h) (by_name 48 refl refl refl)
      | inr a0 ↦
          elim (test (c == 9)) [
            | inl h ↦ rw (eqb-true c 9 h) (by_name 116 refl refl refl)
            | inr a9 ↦
                elim (test (c == 10)) [
                  | inl h ↦ rw (eqb-true c 10 h) (by_name 110 refl refl refl)
                  | inr a10 ↦
                      elim (test (c == 13)) [
                        | inl h ↦ rw (eqb-true c 13 h) (by_name 114 refl refl refl)
                        | inr a13 ↦
                            elim (test (c == 34)) [
                              | inl h ↦ rw (eqb-true c 34 h) (by_name 34 refl refl refl)
                              | inr a34 ↦
                                  elim (test (c == 39)) [
                                    | inl h ↦ rw (eqb-true c 39 h) (by_name 39 refl refl refl)
                                    | inr a39 ↦
                                        elim (test (c == 92)) [
                                          | inl h ↦ rw (eqb-true c 92 h) (by_name 92 refl refl refl)
                                          | inr a92 ↦
                                              elim (test (is_control c)) [
                                                | inl h ↦ by_code (rw (a0, a9, a10, a13, a34, a39, a92, h) refl) h (rw (a0, a9, a10, a13) refl)
                                                | inr h ↦ as_it_is (rw (a0, a9, a10, a13, a34, a39, a92, h) refl) h (rw (a34, a39, a92) refl)
                                              ]
                                        ]
                                  ]
                            ]
                      ]
                ]
          ]
    ]

pub control_small : (c : ℕ) → is_control c ≡ true → c < 256
control_small c h =
    elim (test (nat_lt c 32)) [
      | inl e ↦ omega (arith, ltb-true c 32 e)
      | inr e ↦ let f : (c == 127) ≡ true = rw e at h in omega (arith, eqb-true c 127 f)
    ]

-- ---- what each form begins with

ascii : (c : ℕ) → c < 128 → c ∷ [] ≡ encode_utf8 c
ascii c h = sym (encode_ascii c h)

-- a text that begins with an ASCII character begins with no other one
pub first_same : (c b : ℕ) (xs ys : Text) → b < 128 → encode_utf8 c ++ xs ≡ b ∷ ys → (c ≡ b) × (xs ≡ ys)
first_same c b xs ys h e = encode_same c b xs ys (e ∙ ap (λ bs. bs ++ ys) (ascii b h))

not_backslash : (c : ℕ) → is_quote c ≡ false → c ≢ 92
not_backslash c h e = false≢true (sym h ∙ rw e refl)

name_low : (e : ℕ) → is_name e ≡ true → e < 128
name_low e h =
    elim (test (nat_lt e 128)) [
      | inl k ↦ ltb-true e 128 k
      | inr k ↦
          let high : 128 ≤ e = ltb-false e 128 k in
          let no : (n : ℕ) → n < 128 → (e == n) ≡ false = λ n l. ne_eqb e n (λ f. absurd (omega (arith, f, high, l))) in
          absurd (false≢true (sym (rw (no 48 (omega arith), no 116 (omega arith), no 110 (omega arith), no 114 (omega arith), no 34 (omega arith), no 39 (omega arith), no 92 (omega arith)) refl) ∙ h))
    ]

-- what stands behind a backslash
pub data Behind (c : ℕ) (text rest : Text) : Type 0 where
  a_name : (e : ℕ) → escaped_char c ≡ 92 ∷ e ∷ [] → is_name e ≡ true → unnamed e ≡ c → text ≡ e ∷ rest → Behind c text rest
  a_code : escaped_char c ≡ unicode_escape c → is_control c ≡ true → has_name c ≡ false → text ≡ 117 ∷ 123 ∷ (digits 16 false c ++ 125 ∷ rest) → Behind c text rest

code_text : (c : ℕ) (rest : Text) → unicode_escape c ++ rest ≡ 92 ∷ 117 ∷ 123 ∷ (digits 16 false c ++ 125 ∷ rest)
code_text c rest = ap (λ bs. 92 ∷ 117 ∷ 123 ∷ bs) (append_assoc (digits 16 false c) (125 ∷ []) rest)

pub behind : (c : ℕ) (text rest : Text) → 92 ∷ text ≡ escaped_char c ++ rest → Behind c text rest
behind c text rest e = by (forms c)
  where
    by : Form c → Behind c text rest
    by (by_name n t i u) = let f : 92 ∷ text ≡ 92 ∷ n ∷ rest = e ∙ ap (λ bs. bs ++ rest) t in a_name n t i u (cc)
    by (by_code t k n) = let f : 92 ∷ text ≡ 92 ∷ 117 ∷ 123 ∷ (digits 16 false c ++ 125 ∷ rest) = e ∙ ap (λ bs. bs ++ rest) t ∙ code_text c rest in a_code t k n (cc)
    by (as_it_is t k q) = absurd (not_backslash c q (first_same c 92 rest text (omega arith) (sym (e ∙ ap (λ bs. bs ++ rest) t))).0)

-- ---- codes

no_zero : (d : ℕ) → 0 < d → d < 16 → digit_glyph false d ≢ 48
no_zero d some h e =
    elim (test (nat_lt d 10)) [
      | inl k ↦ let f : 48 + d ≡ 48 = rw k at e in omega (arith, f, some)
      | inr k ↦ let f : 87 + d ≡ 48 = rw k at e in omega (arith, f)
    ]

-- the digits of a number that has one, or two
pub data IsNumber (d : ℕ) (code : Text) : Type 0 where
  one_digit : d < 16 → code ≡ digit_glyph false d ∷ [] → IsNumber d code
  two_digits : 0 < d / 16 → d / 16 < 16 → d % 16 < 16 → code ≡ digit_glyph false (d / 16) ∷ digit_glyph false (d % 16) ∷ [] → IsNumber d code

pub number_is : (d : ℕ) (code : Text) → d < 256 → digits 16 false d ≡ code → IsNumber d code
number_is d code h e =
    elim (test (nat_lt d 16)) [
      | inl k ↦ let low : d < 16 = ltb-true d 16 k in one_digit low (sym e ∙ hex_one_digit false d low)
      | inr k ↦ let high : 16 ≤ d = ltb-false d 16 k in two_digits (omega (arith, high)) (omega (arith, h)) (omega arith) (sym e ∙ hex_two_digits false d high h)
    ]

-- a number below 256 has one digit or two
pub is_short : (d : ℕ) (code : Text) → d < 256 → digits 16 false d ≡ code → (1 ≤ length code) × (length code < 3)
is_short d code h e = by (number_is d code h e)
  where
    by : IsNumber d code → (1 ≤ length code) × (length code < 3)
    by (one_digit l f) = rw f (omega arith, omega arith)
    by (two_digits s l k f) = rw f (omega arith, omega arith)

one_long : (code : Text) → 1 ≤ length code → length code < 2 → code ≡ slice_index_or code 0 0 ∷ []
one_long [] h k = absurd (omega (arith, h))
one_long (x ∷ []) h k = refl
one_long (x ∷ y ∷ ys) h k = absurd (omega (arith, k))

two_long : (code : Text) → 2 ≤ length code → length code < 3 → code ≡ slice_index_or code 0 0 ∷ slice_index_or code 1 0 ∷ []
two_long [] h k = absurd (omega (arith, h))
two_long (x ∷ []) h k = absurd (omega (arith, h))
two_long (x ∷ y ∷ []) h k = refl
two_long (x ∷ y ∷ z ∷ zs) h k = absurd (omega (arith, k))

-- what is said of the digits is said of the code
pub with_one : (code : Text) → 1 ≤ length code → length code < 2 → (r : Option ℕ)
    → MatchOption r ((d : ℕ) → d < 16 → digit_glyph false d ≢ slice_index_or code 0 0) (λ d. (d < 16) × (digit_glyph false d ≡ slice_index_or code 0 0))
    → MatchOption r ((d : ℕ) → d < 256 → digits 16 false d ≢ code) (λ d. digits 16 false d ≡ code)
with_one code h k None none = λ d low e. by d (number_is d code low e)
  where
    by : (d : ℕ) → IsNumber d code → ⊥
    by d (one_digit l f) = none d l (sym (ap (λ bs. slice_index_or bs 0 0) f))
    by d (two_digits s l m f) = let long : length code ≡ 2 = ap length f in absurd (omega (arith, long, k))
with_one code h k (Some d) (low, e) = hex_one_digit false d low ∙ ap (λ b. b ∷ []) e ∙ sym (one_long code h k)

pub with_two : (code : Text) → 2 ≤ length code → length code < 3 → (r : Option ℕ)
    → MatchOption r ((d : ℕ) → d < 256 → digits 16 false d ≢ slice_index_or code 0 0 ∷ slice_index_or code 1 0 ∷ []) (λ d. digits 16 false d ≡ slice_index_or code 0 0 ∷ slice_index_or code 1 0 ∷ [])
    → MatchOption r ((d : ℕ) → d < 256 → digits 16 false d ≢ code) (λ d. digits 16 false d ≡ code)
with_two code h k r said = subst (λ bs. MatchOption r ((d : ℕ) → d < 256 → digits 16 false d ≢ bs) (λ d. digits 16 false d ≡ bs)) (sym (two_long code h k)) said

-- both digits of a number, the first of which isn't zero
pub digits_both : (d high low : ℕ) → d < 256 → digits 16 false d ≡ high ∷ low ∷ [] → (a : ℕ) × (b : ℕ) × (0 < a) × (a < 16) × (b < 16) × (digit_glyph false a ≡ high) × (digit_glyph false b ≡ low)
digits_both d high low h e = by (number_is d (high ∷ low ∷ []) h e)
  where
    by : IsNumber d (high ∷ low ∷ []) → (a : ℕ) × (b : ℕ) × (0 < a) × (a < 16) × (b < 16) × (digit_glyph false a ≡ high) × (digit_glyph false b ≡ low)
    by (one_digit l f) = absurd (cc)
    by (two_digits s l k f) = (d / 16, d % 16, s, l, k, sym (ap (λ bs. slice_index_or bs 0 0) f), sym (ap (λ bs. slice_index_or bs 1 0) f))

pub both_digits : (a b high low : ℕ) → 0 < a → a < 16 → b < 16 → digit_glyph false a ≡ high → digit_glyph false b ≡ low → digits 16 false (a * 16 + b) ≡ high ∷ low ∷ []
both_digits a b high low some la lb ea eb =
    let front : (a * 16 + b) / 16 ≡ a = omega (arith, lb) in
    let back : (a * 16 + b) % 16 ≡ b = omega (arith, lb) in
    let long : 16 ≤ a * 16 + b = omega (arith, some) in
    let short : a * 16 + b < 256 = omega (arith, la, lb) in
    hex_two_digits false (a * 16 + b) long short ∙ rw (front, back, ea, eb) refl

-- a digit is that of one number alone
abbrev glyph : ℕ → ℕ
glyph g = if nat_lt g 58 then g - 48 else g - 87

glyph_back : (d : ℕ) → d < 16 → glyph (digit_glyph false d) ≡ d
glyph_back d h =
    elim (test (nat_lt d 10)) [
      | inl e ↦
          let low : d < 10 = ltb-true d 10 e in
          let small : nat_lt (48 + d) 58 ≡ true = lt-ltb (48 + d) 58 (omega (arith, low)) in
          let same : (48 + d) - 48 ≡ d = omega arith in
          rw (e, small) same
      | inr e ↦
          let high : 10 ≤ d = ltb-false d 10 e in
          let large : nat_lt (87 + d) 58 ≡ false = le-ltb (87 + d) 58 (omega (arith, high)) in
          let same : (87 + d) - 87 ≡ d = omega arith in
          rw (e, large) same
    ]

pub same_digit : (a b : ℕ) → a < 16 → b < 16 → digit_glyph false a ≡ digit_glyph false b → a ≡ b
same_digit a b h k e = sym (glyph_back a h) ∙ ap glyph e ∙ glyph_back b k

pub same_number : (a b : ℕ) → a < 256 → b < 256 → digits 16 false a ≡ digits 16 false b → a ≡ b
same_number a b h k e = by (number_is a (digits 16 false b) h e) (number_is b (digits 16 false b) k refl)
  where
    by : IsNumber a (digits 16 false b) → IsNumber b (digits 16 false b) → a ≡ b
    by (one_digit l f) (one_digit m g) = same_digit a b l m (ap (λ bs. slice_index_or bs 0 0) (sym f ∙ g))
    by (one_digit l f) (two_digits t m n g) = absurd (let both : digit_glyph false a ∷ [] ≡ digit_glyph false (b / 16) ∷ digit_glyph false (b % 16) ∷ [] = sym f ∙ g in cc)
    by (two_digits s l o f) (one_digit m g) = absurd (let both : digit_glyph false b ∷ [] ≡ digit_glyph false (a / 16) ∷ digit_glyph false (a % 16) ∷ [] = sym g ∙ f in cc)
    by (two_digits s l o f) (two_digits t m n g) =
        let both : digit_glyph false (a / 16) ∷ digit_glyph false (a % 16) ∷ [] ≡ digit_glyph false (b / 16) ∷ digit_glyph false (b % 16) ∷ [] = sym f ∙ g in
        let high : a / 16 ≡ b / 16 = same_digit (a / 16) (b / 16) l m (ap (λ bs. slice_index_or bs 0 0) both) in
        let low : a % 16 ≡ b % 16 = same_digit (a % 16) (b % 16) o n (ap (λ bs. slice_index_or bs 1 0) both) in
        omega (arith, high, low)

-- ---- what each way of reading finds

nothing_more : (xs : Text) (b : ℕ) → encode_utf8 b ≡ xs → encode_utf8 b ++ [] ≡ xs
nothing_more xs b e = append-nil (encode_utf8 b) ∙ e

-- a character that is written by its code
pub code_only : (c : ℕ) → escaped_char c ≡ unicode_escape c → (is_control c ≡ true) × (has_name c ≡ false)
code_only c e = by (forms c)
  where
    by : Form c → (is_control c ≡ true) × (has_name c ≡ false)
    by (by_name n t i u) = absurd (let f : 92 ∷ n ∷ [] ≡ unicode_escape c = sym t ∙ e in cc)
    by (by_code t k n) = (k, n)
    by (as_it_is t k q) = absurd (not_backslash c q (first_same c 92 [] (117 ∷ 123 ∷ (digits 16 false c ++ codes "}")) (omega arith) (nothing_more (unicode_escape c) c (sym t ∙ e))).0)

-- a character that is written by a name
pub name_only : (d c : ℕ) → escaped_char d ≡ 92 ∷ encode_utf8 c → is_name c ≡ true
name_only d c e = by (forms d)
  where
    by : Form d → is_name c ≡ true
    by (by_name n t i u) =
        let f : 92 ∷ encode_utf8 c ≡ 92 ∷ n ∷ [] = sym e ∙ t in
        let g : encode_utf8 c ≡ n ∷ [] = cc in
        subst (λ (m : ℕ). is_name m ≡ true) (sym (first_same c n [] [] (name_low n i) (nothing_more (n ∷ []) c g)).0) i
    by (by_code t k n) =
        let f : 92 ∷ encode_utf8 c ≡ 92 ∷ 117 ∷ 123 ∷ (digits 16 false d ++ codes "}") = sym e ∙ t in
        let g : encode_utf8 c ≡ 117 ∷ 123 ∷ (digits 16 false d ++ codes "}") = cc in
        let h : [] ≡ 123 ∷ (digits 16 false d ++ codes "}") = (first_same c 117 [] (123 ∷ (digits 16 false d ++ codes "}")) (omega arith) (nothing_more (117 ∷ 123 ∷ (digits 16 false d ++ codes "}")) c g)).1 in
        absurd (cc)
    by (as_it_is t k q) = absurd (not_backslash d q (first_same d 92 [] (encode_utf8 c) (omega arith) (nothing_more (92 ∷ encode_utf8 c) d (sym t ∙ e))).0)

-- a code that is written
pub code_back : (d : ℕ) (code : Text) → escaped_char d ≡ codes "\\u{" ++ (code ++ codes "}") → (digits 16 false d ≡ code) × (d < 256) × (escaped_char d ≡ unicode_escape d)
code_back d code e = by (forms d)
  where
    by : Form d → (digits 16 false d ≡ code) × (d < 256) × (escaped_char d ≡ unicode_escape d)
    by (by_name n t i u) = absurd (let f : 92 ∷ n ∷ [] ≡ 92 ∷ 117 ∷ 123 ∷ (code ++ 125 ∷ []) = sym t ∙ e in cc)
    by (by_code t k n) =
        let f : 92 ∷ 117 ∷ 123 ∷ (digits 16 false d ++ 125 ∷ []) ≡ 92 ∷ 117 ∷ 123 ∷ (code ++ 125 ∷ []) = sym t ∙ e in
        let g : digits 16 false d ++ 125 ∷ [] ≡ code ++ 125 ∷ [] = cc in
        (append_cancel_right (digits 16 false d) code (125 ∷ []) g, control_small d k, t)
    by (as_it_is t k q) = absurd (not_backslash d q (first_same d 92 [] (117 ∷ 123 ∷ (code ++ 125 ∷ [])) (omega arith) (nothing_more (92 ∷ 117 ∷ 123 ∷ (code ++ 125 ∷ [])) d (sym t ∙ e))).0)

-- no other number is written by this code
pub no_other_code : (v : ℕ) (code : Text) → v < 256 → digits 16 false v ≡ code → ¬ (escaped_char v ≡ unicode_escape v) → (d : ℕ) → escaped_char d ≢ codes "\\u{" ++ (code ++ codes "}")
no_other_code v code h e uncoded d f =
    let b = code_back d code f in
    uncoded (subst (λ (n : ℕ). escaped_char n ≡ unicode_escape n) (same_number d v b.1 h (b.0 ∙ sym e)) b.2)

-- ---- what a text can't begin with

pub nothing_begins : (text : Text) → text ≡ [] → (c : ℕ) (rest : Text) → text ≢ escaped_char c ++ rest
nothing_begins text none c rest e = by (forms c)
  where
    by : Form c → ⊥
    by (by_name n t i u) = let f : [] ≡ 92 ∷ n ∷ rest = sym none ∙ e ∙ ap (λ bs. bs ++ rest) t in absurd (cc)
    by (by_code t k n) = let f : [] ≡ 92 ∷ 117 ∷ 123 ∷ (digits 16 false c ++ 125 ∷ rest) = sym none ∙ e ∙ ap (λ bs. bs ++ rest) t ∙ code_text c rest in absurd (cc)
    by (as_it_is t k q) =
        let f : [] ≡ encode_utf8 c ++ rest = sym none ∙ e ∙ ap (λ bs. bs ++ rest) t in
        let long : 0 ≡ length (encode_utf8 c) + length rest = ap length f ∙ length-append (encode_utf8 c) rest in
        omega (arith, long, length-encode c, (len_utf8_bounds c).0)

pub no_escape : (text : Text) → text ≡ [] → (c : ℕ) (rest : Text) → 92 ∷ text ≢ escaped_char c ++ rest
no_escape text none c rest e = by (behind c text rest e)
  where
    by : Behind c text rest → ⊥
    by (a_name n t i u f) = let g : [] ≡ n ∷ rest = sym none ∙ f in absurd (cc)
    by (a_code t k n f) = let g : [] ≡ 117 ∷ 123 ∷ (digits 16 false c ++ 125 ∷ rest) = sym none ∙ f in absurd (cc)

pub no_name : (text more : Text) (b : ℕ) → text ≡ encode_utf8 b ++ more → b ≢ 117 → ((d : ℕ) → escaped_char d ≢ 92 ∷ encode_utf8 b) → (c : ℕ) (rest : Text) → 92 ∷ text ≢ escaped_char c ++ rest
no_name text more b whole coded unnamed c rest e = by (behind c text rest e)
  where
    by : Behind c text rest → ⊥
    by (a_name n t i u f) =
        let low = name_low n i in
        let same : b ≡ n = (first_same b n more rest low (sym whole ∙ f)).0 in
        unnamed c (t ∙ ap (λ bs. 92 ∷ bs) (ascii n low ∙ ap encode_utf8 (sym same)))
    by (a_code t k n f) = coded (first_same b 117 more (123 ∷ (digits 16 false c ++ 125 ∷ rest)) (omega arith) (sym whole ∙ f)).0

pub no_plain : (text more : Text) (b : ℕ) → text ≡ encode_utf8 b ++ more → b ≢ 92 → ¬ (escaped_char b ≡ encode_utf8 b) → (c : ℕ) (rest : Text) → text ≢ escaped_char c ++ rest
no_plain text more b whole other odd c rest e = by (forms c)
  where
    by : Form c → ⊥
    by (by_name n t i u) = other (first_same b 92 more (n ∷ rest) (omega arith) (sym whole ∙ e ∙ ap (λ bs. bs ++ rest) t)).0
    by (by_code t k n) = other (first_same b 92 more (117 ∷ 123 ∷ (digits 16 false c ++ 125 ∷ rest)) (omega arith) (sym whole ∙ e ∙ ap (λ bs. bs ++ rest) t ∙ code_text c rest)).0
    by (as_it_is t k q) =
        let same : b ≡ c = (encode_same b c more rest (sym whole ∙ e ∙ ap (λ bs. bs ++ rest) t)).0 in
        odd (subst (λ (d : ℕ). escaped_char d ≡ encode_utf8 d) (sym same) t)

-- ---- codes in a text

abbrev Free : Text → Type 0
Free [] = Unit {0}
Free (c ∷ cs) = (c ≢ 125) × Free cs

no_brace : (d : ℕ) → d < 16 → digit_glyph false d ≢ 125
no_brace d h e =
    elim (test (nat_lt d 10)) [
      | inl k ↦ let f : 48 + d ≡ 125 = rw k at e in omega (arith, f, h)
      | inr k ↦ let f : 87 + d ≡ 125 = rw k at e in omega (arith, f, h)
    ]

digits_free : (d : ℕ) → d < 256 → Free (digits 16 false d)
digits_free d h = by (number_is d (digits 16 false d) h refl)
  where
    by : IsNumber d (digits 16 false d) → Free (digits 16 false d)
    by (one_digit l f) = subst Free (sym f) (no_brace d l, tt)
    by (two_digits s l k f) = subst Free (sym f) (no_brace (d / 16) l, (no_brace (d % 16) k, tt))

free_at : (xs : Text) → Free xs → (i : ℕ) → i < length xs → get_or xs i 0 ≢ 125
free_at [] h i l = absurd (omega (arith, l))
free_at (x ∷ xs) h zero l = h.0
free_at (x ∷ xs) h (suc i) l = free_at xs h.1 i (omega (arith, l))

-- a text that has a code behind `\u`
pub behind_u : (text : Text) (c : ℕ) (rest : Text) → 92 ∷ 117 ∷ text ≡ escaped_char c ++ rest → (escaped_char c ≡ unicode_escape c) × (c < 256) × (text ≡ 123 ∷ (digits 16 false c ++ 125 ∷ rest))
behind_u text c rest e = by (behind c (117 ∷ text) rest e)
  where
    by : Behind c (117 ∷ text) rest → (escaped_char c ≡ unicode_escape c) × (c < 256) × (text ≡ 123 ∷ (digits 16 false c ++ 125 ∷ rest))
    by (a_name n t i u f) = let g : 117 ≡ n = cc in absurd (false≢true (subst (λ (m : ℕ). is_name m ≡ true) (sym g) i))
    by (a_code t k n f) = (t, control_small c k, cc)

pub no_bracket : (text : Text) → ((rest : Text) → text ≢ encode_utf8 123 ++ rest) → (c : ℕ) (rest : Text) → 92 ∷ 117 ∷ text ≢ escaped_char c ++ rest
no_bracket text none c rest e = let b = behind_u text c rest e in none (digits 16 false c ++ 125 ∷ rest) (b.2 ∙ ap (λ bs. bs ++ (digits 16 false c ++ 125 ∷ rest)) (ascii 123 (omega arith)))

-- what stands behind the bracket
inside_bracket : (text inside : Text) → text ≡ 123 ∷ inside → (c : ℕ) (rest : Text) → text ≡ 123 ∷ (digits 16 false c ++ 125 ∷ rest) → inside ≡ digits 16 false c ++ 125 ∷ rest
inside_bracket text inside e c rest f = let g : 123 ∷ inside ≡ 123 ∷ (digits 16 false c ++ 125 ∷ rest) = sym e ∙ f in cc

pub no_end : (text inside : Text) → text ≡ 123 ∷ inside → IsSplitOnceResult 125 inside None → (c : ℕ) (rest : Text) → 92 ∷ 117 ∷ text ≢ escaped_char c ++ rest
no_end text inside e cut c rest f =
    let b = behind_u text c rest f in
    split_after 125 inside (digits 16 false c) rest None cut (omega arith) (inside_bracket text inside e c rest b.2) (free_at (digits 16 false c) (digits_free c b.1))

pub no_code : (text inside : Text) (code more : Bor Text) → text ≡ 123 ∷ inside → IsSplitOnceResult 125 inside (Some (code, more)) → ((d : ℕ) → escaped_char d ≢ codes "\\u{" ++ (code.now ++ codes "}")) → (c : ℕ) (rest : Text)
    → 92 ∷ 117 ∷ text ≢ escaped_char c ++ rest
no_code text inside code more e cut none c rest f =
    let b = behind_u text c rest f in
    let at = split_after 125 inside (digits 16 false c) rest (Some (code, more)) cut (omega arith) (inside_bracket text inside e c rest b.2) (free_at (digits 16 false c) (digits_free c b.1)) in
    none c (b.0 ∙ ap (λ bs. codes "\\u{" ++ (bs ++ codes "}")) (sym at.0))

pub a_code_begins : (text inside : Text) (code more : Bor Text) (c : ℕ) → text ≡ 123 ∷ inside → IsSplitOnceResult 125 inside (Some (code, more)) → escaped_char c ≡ codes "\\u{" ++ (code.now ++ codes "}") → BeginsWith (92 ∷ 117 ∷ text) c more.now
a_code_begins text inside code more c e cut coded =
    let parts : inside ≡ code.now ++ 125 ∷ more.now = (split_parts 125 inside (Some (code, more)) cut (omega arith)).0 in
    let all : 92 ∷ 117 ∷ text ≡ escaped_char c ++ more.now =
    ap (λ bs. 92 ∷ 117 ∷ bs) (e ∙ ap (λ bs. 123 ∷ bs) parts) ∙ ap (λ bs. 92 ∷ 117 ∷ 123 ∷ bs) (sym (append_assoc code.now (125 ∷ []) more.now)) ∙ ap (λ bs. bs ++ more.now) (sym coded) in
    let long : length inside ≡ length code.now + length (125 ∷ more.now) = ap length parts ∙ length-append code.now (125 ∷ more.now) in
    let over : length text ≡ suc (length inside) = ap length e in
    record { whole = all; shorter = omega (arith, long, over) }

-- ---- no two characters stand so alike

split_brace : (a b xs ys : Text) → Free a → Free b → a ++ 125 ∷ xs ≡ b ++ 125 ∷ ys → (a ≡ b) × (xs ≡ ys)
split_brace [] [] xs ys h k e = (refl, cc)
split_brace [] (d ∷ ds) xs ys h k e = absurd (k.0 (cc))
split_brace (c ∷ cs) [] xs ys h k e = absurd (h.0 (cc))
split_brace (c ∷ cs) (d ∷ ds) xs ys h k e =
    let first : c ≡ d = cc in
    let rest : cs ++ 125 ∷ xs ≡ ds ++ 125 ∷ ys = cc in
    let r = split_brace cs ds xs ys h.1 k.1 rest in
    (λ i. first i ∷ r.0 i, r.1)

pub escapes_alike : (c d : ℕ) (xs ys : Text) → escaped_char c ++ xs ≡ escaped_char d ++ ys → (c ≡ d) × (xs ≡ ys)
escapes_alike c d xs ys e = by (forms c)
  where
    by_names : (n : ℕ) → is_name n ≡ true → unnamed n ≡ c → Behind d (n ∷ xs) ys → (c ≡ d) × (xs ≡ ys)
    by_names n i u (a_name m t j v f) =
        let same : n ≡ m = cc in
        (sym u ∙ ap unnamed same ∙ v, cc)
    by_names n i u (a_code t k o f) = let g : n ≡ 117 = cc in absurd (false≢true (subst (λ (m : ℕ). is_name m ≡ true) g i))

    by_codes : c < 256 → Behind d (117 ∷ 123 ∷ (digits 16 false c ++ 125 ∷ xs)) ys → (c ≡ d) × (xs ≡ ys)
    by_codes h (a_name m t j v f) = let g : 117 ≡ m = cc in absurd (false≢true (subst (λ (k : ℕ). is_name k ≡ true) (sym g) j))
    by_codes h (a_code t k o f) =
        let g : digits 16 false c ++ 125 ∷ xs ≡ digits 16 false d ++ 125 ∷ ys = cc in
        let r = split_brace (digits 16 false c) (digits 16 false d) xs ys (digits_free c h) (digits_free d (control_small d k)) g in
        (same_number c d h (control_small d k) r.0, r.1)

    plain : encode_utf8 c ++ xs ≡ escaped_char d ++ ys → c ≢ 92 → Form d → (c ≡ d) × (xs ≡ ys)
    plain f other (by_name n t i u) = absurd (other (first_same c 92 xs (n ∷ ys) (omega arith) (f ∙ ap (λ bs. bs ++ ys) t)).0)
    plain f other (by_code t k n) = absurd (other (first_same c 92 xs (117 ∷ 123 ∷ (digits 16 false d ++ 125 ∷ ys)) (omega arith) (f ∙ ap (λ bs. bs ++ ys) t ∙ code_text d ys)).0)
    plain f other (as_it_is t k q) = encode_same c d xs ys (f ∙ ap (λ bs. bs ++ ys) t)

    by : Form c → (c ≡ d) × (xs ≡ ys)
    by (by_name n t i u) = by_names n i u (behind d (n ∷ xs) ys (ap (λ bs. bs ++ xs) (sym t) ∙ e))
    by (by_code t k n) = by_codes (control_small c k) (behind d (117 ∷ 123 ∷ (digits 16 false c ++ 125 ∷ xs)) ys (sym (code_text c xs) ∙ ap (λ bs. bs ++ xs) (sym t) ∙ e))
    by (as_it_is t k q) = plain (ap (λ bs. bs ++ xs) (sym t) ∙ e) (not_backslash c q) (forms d)
