-- Each pattern is written in its own way: the first element is read back from the text, and the rest after it.
use Rattle.std.proofs.Common.{◌≡◌, ℕ, ◌+◌, ◌-◌, ◌*◌, ◌/◌, ◌%◌, ◌<◌, ◌≤◌, ◌==◌, Bool, true, false, if◌then◌else◌, nat_lt, List, [], ◌∷◌, ◌++◌, length, ◌⊎◌, inl, inr, refl, sym, ap, ◌∙◌, arith, append_assoc, append-nil, length-append}
use Rattle.std.specs.Prelude.{encode_utf8}
use Rattle.std.specs.Fmt.{digits, digit_glyph}
use Rattle.std.proofs.lemmas.Bool.{ltb-true, ltb-false, lt-ltb, le-ltb, eqb-true, ne_eqb}
use Rattle.std.proofs.lemmas.Fmt.{hex_one_digit, hex_two_digits}
use Rattle.std.proofs.lemmas.Str.{encode_ascii, encode_same, length-encode, len_utf8_bounds}
use Rattle.cedar_language.specs.Tree.{PatternElem, Char, Wildcard}
use Rattle.cedar_literals.specs.Escapes.{is_control}
use Rattle.cedar_literals.specs.Patterns.{elem_text, pattern_text, PatternsAreToldApart}

test : (b : Bool) → (b ≡ true) ⊎ (b ≡ false)
test true = inl refl
test false = inr refl

-- the digit that stands for itself in base 16
abbrev glyph : ℕ → ℕ
glyph g = if nat_lt g 58 then g - 48 else g - 87

glyph_back : (d : ℕ) → d < 16 → glyph (digit_glyph false d) ≡ d
glyph_back d h =
    elim (test (nat_lt d 10)) [
      | inl e ↦
          let low : d < 10 = ltb-true d 10 e in
          let small : nat_lt (48 + d) 58 ≡ true = lt-ltb (48 + d) 58 (omega (arith, low)) in
          let same : (48 + d) - 48 ≡ d = omega arith in
          rw (e, small) same
      | inr e ↦
          let high : 10 ≤ d = ltb-false d 10 e in
          let large : nat_lt (87 + d) 58 ≡ false = le-ltb (87 + d) 58 (omega (arith, high)) in
          let same : (87 + d) - 87 ≡ d = omega arith in
          rw (e, large) same
    ]

no_brace : (d : ℕ) → d < 16 → (digit_glyph false d == 125) ≡ false
no_brace d h =
    elim (test (nat_lt d 10)) [
      | inl e ↦ rw e (ne_eqb (48 + d) 125 (λ f. absurd (omega (arith, f, h))))
      | inr e ↦ rw e (ne_eqb (87 + d) 125 (λ f. absurd (omega (arith, f, h))))
    ]

-- what a text begins with, by its first character and what follows it
abbrev past_one : List ℕ → List ℕ
past_one [] = []
past_one (b ∷ bs) = bs

abbrev coded_out : List ℕ → PatternElem × List ℕ
coded_out (b ∷ g ∷ x ∷ bs) = if x == 125 then (Char (glyph g), bs) else (Char (glyph g * 16 + glyph x), past_one bs)
coded_out _ = (Wildcard, [])

abbrev unnamed : ℕ → ℕ
unnamed e = if e == 48 then 0 else if e == 116 then 9 else if e == 110 then 10 else if e == 114 then 13 else e

abbrev unescaped : List ℕ → PatternElem × List ℕ
unescaped [] = (Wildcard, [])
unescaped (e ∷ bs) = if e == 117 then coded_out bs else (Char (unnamed e), bs)

abbrev out : ℕ → List ℕ → PatternElem × List ℕ
out c bs = if c == 42 then (Wildcard, bs) else if c == 92 then unescaped bs else (Char c, bs)

record Reads (p : PatternElem) : Type 0 where
  first : ℕ
  tail : List ℕ
  text : elem_text p ≡ encode_utf8 first ++ tail
  back : (bs : List ℕ) → out first (tail ++ bs) ≡ (p, bs)

behind_backslash : (c : ℕ) (tail : List ℕ) → elem_text (Char c) ≡ 92 ∷ tail → elem_text (Char c) ≡ encode_utf8 92 ++ tail
behind_backslash c tail t = t ∙ ap (λ bs. bs ++ tail) (sym (encode_ascii 92 (omega arith)))

named : (c e : ℕ) → elem_text (Char c) ≡ 92 ∷ e ∷ [] → (e == 117) ≡ false → unnamed e ≡ c → Reads (Char c)
named c e t n u = record { first = 92; tail = e ∷ []; text = behind_backslash c (e ∷ []) t; back = λ bs. rw (n, u) refl }

coded_one : (c : ℕ) → elem_text (Char c) ≡ 92 ∷ 117 ∷ 123 ∷ (digits 16 false c ++ 125 ∷ []) → c < 16 → Reads (Char c)
coded_one c t h = record {
  first = 92;
  tail = 117 ∷ 123 ∷ digit_glyph false c ∷ 125 ∷ [];
  text = behind_backslash c (117 ∷ 123 ∷ digit_glyph false c ∷ 125 ∷ []) (t ∙ ap (λ ds. 92 ∷ 117 ∷ 123 ∷ (ds ++ 125 ∷ [])) (hex_one_digit false c h));
  back = λ bs. ap (λ d. (Char d, bs)) (glyph_back c h);
}

coded_two : (c : ℕ) → elem_text (Char c) ≡ 92 ∷ 117 ∷ 123 ∷ (digits 16 false c ++ 125 ∷ []) → 16 ≤ c → c < 256 → Reads (Char c)
coded_two c t l h =
    let low : c % 16 < 16 = omega arith in
    let high : c / 16 < 16 = omega (arith, h) in
    let whole : (c / 16) * 16 + c % 16 ≡ c = omega arith in
    record {
      first = 92;
      tail = 117 ∷ 123 ∷ digit_glyph false (c / 16) ∷ digit_glyph false (c % 16) ∷ 125 ∷ [];
      text =
          behind_backslash c (117 ∷ 123 ∷ digit_glyph false (c / 16) ∷ digit_glyph false (c % 16) ∷ 125 ∷ [])
          (t ∙ ap (λ ds. 92 ∷ 117 ∷ 123 ∷ (ds ++ 125 ∷ [])) (hex_two_digits false c l h));
      back = λ bs. rw (no_brace (c % 16) low, glyph_back (c / 16) high, glyph_back (c % 16) low, whole) refl;
    }

coded : (c : ℕ) → elem_text (Char c) ≡ 92 ∷ 117 ∷ 123 ∷ (digits 16 false c ++ 125 ∷ []) → c < 256 → Reads (Char c)
coded c t h =
    elim (test (nat_lt c 16)) [
      | inl e ↦ coded_one c t (ltb-true c 16 e)
      | inr e ↦ coded_two c t (ltb-false c 16 e) h
    ]

control_small : (c : ℕ) → is_control c ≡ true → c < 256
control_small c h =
    elim (test (nat_lt c 32)) [
      | inl e ↦ omega (arith, ltb-true c 32 e)
      | inr e ↦ let f : (c == 127) ≡ true = rw e at h in omega (arith, eqb-true c 127 f)
    ]

reads_char : (c : ℕ) → Reads (Char c)
reads_char c =
    elim (test (c == 42)) [
      | inl h ↦ rw (eqb-true c 42 h) (named 42 42 refl refl refl)
      | inr a42 ↦
          elim (test (c == 0)) [
            | inl h ↦ rw (eqb-true c 0 h) (named 0 48 refl refl refl)
            | inr a0 ↦
                elim (test (c == 9)) [
                  | inl h ↦ rw (eqb-true c 9 h) (named 9 116 refl refl refl)
                  | inr a9 ↦
                      elim (test (c == 10)) [
                        | inl h ↦ rw (eqb-true c 10 h) (named 10 110 refl refl refl)
                        | inr a10 ↦
                            elim (test (c == 13)) [
                              | inl h ↦ rw (eqb-true c 13 h) (named 13 114 refl refl refl)
                              | inr a13 ↦
                                  elim (test (c == 34)) [
                                    | inl h ↦ rw (eqb-true c 34 h) (named 34 34 refl refl refl)
                                    | inr a34 ↦
                                        elim (test (c == 39)) [
                                          | inl h ↦ rw (eqb-true c 39 h) (named 39 39 refl refl refl)
                                          | inr a39 ↦
                                              elim (test (c == 92)) [
                                                | inl h ↦ rw (eqb-true c 92 h) (named 92 92 refl refl refl)
                                                | inr a92 ↦
                                                    elim (test (is_control c)) [
                                                      | inl h ↦ coded c (rw (a42, a0, a9, a10, a13, a34, a39, a92, h) refl) (control_small c h)
                                                      | inr h ↦ plain c (rw (a42, a0, a9, a10, a13, a34, a39, a92, h) refl) a42 a92
                                                    ]
                                              ]
                                        ]
                                  ]
                            ]
                      ]
                ]
          ]
    ]
  where
    plain : (c : ℕ) → elem_text (Char c) ≡ encode_utf8 c → (c == 42) ≡ false → (c == 92) ≡ false → Reads (Char c)
    plain c t a b = record { first = c; tail = []; text = t ∙ sym (append-nil (encode_utf8 c)); back = λ bs. rw (a, b) refl }

reads : (p : PatternElem) → Reads p
reads (Char c) = reads_char c
reads Wildcard = record { first = 42; tail = []; text = ap (λ bs. bs ++ []) (sym (encode_ascii 42 (omega arith))); back = λ bs. refl }

first_alike : (p q : PatternElem) (xs ys : List ℕ) → elem_text p ++ xs ≡ elem_text q ++ ys → ◌≡◌ {A = PatternElem × List ℕ} (p, xs) (q, ys)
first_alike p q xs ys e =
    let a = reads p in
    let b = reads q in
    let same : encode_utf8 a.first ++ (a.tail ++ xs) ≡ encode_utf8 b.first ++ (b.tail ++ ys) =
    sym (append_assoc (encode_utf8 a.first) a.tail xs) ∙ sym (ap (λ t. t ++ xs) a.text) ∙ e ∙ ap (λ t. t ++ ys) b.text ∙ append_assoc (encode_utf8 b.first) b.tail ys in
    let (f, t) = encode_same a.first b.first (a.tail ++ xs) (b.tail ++ ys) same in
    sym (a.back xs) ∙ (λ i. out (f i) (t i)) ∙ b.back ys

some_text : (p : PatternElem) (xs : List ℕ) → [] ≡ elem_text p ++ xs → ⊥
some_text p xs e =
    let a = reads p in
    let long : 0 ≡ length (elem_text p) + length xs = ap length e ∙ length-append (elem_text p) xs in
    let made : length (elem_text p) ≡ length (encode_utf8 a.first) + length a.tail = ap length a.text ∙ length-append (encode_utf8 a.first) a.tail in
    omega (arith, long, made, length-encode a.first, (len_utf8_bounds a.first).0)

pub told_apart : PatternsAreToldApart
told_apart [] [] e = refl
told_apart [] (q ∷ qs) e = absurd (some_text q (pattern_text qs) e)
told_apart (p ∷ ps) [] e = absurd (some_text p (pattern_text ps) (sym e))
told_apart (p ∷ ps) (q ∷ qs) e =
    let same = first_alike p q (pattern_text ps) (pattern_text qs) e in
    let head : p ≡ q = ap (λ x. x.0) same in
    let rest : ps ≡ qs = told_apart ps qs (ap (λ x. x.1) same) in
    λ i. head i ∷ rest i
