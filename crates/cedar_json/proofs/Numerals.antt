-- What `parse` reads is a long.
use Rattle.std.proofs.Common.{◌≡◌, ◌≢◌, ℕ, ◌<◌, ◌≤◌, Bool, true, false, cond, ◌&&◌, Some, None, is_some, List, [], ◌∷◌, length, get_or, Result, Ok, Err, refl, sym, ap, ◌∙◌, arith, w64, true≢false}
use Rattle.std.specs.Prelude.{◌==◌, nat_le, is_ok, ℤ}
use Rattle.std.specs.Char.{is_ascii_digit}
use Rattle.std.specs.List.{list_all}
use Rattle.std.specs.Result.{OkIff}
use Rattle.std.specs.Str.Parse.{ParsesSigned, digits_value}
use Rattle.std.proofs.lemmas.Bool.{and_parts, eqb-true}
use Rattle.std.proofs.lemmas.Bool.Decides.{nat_tests}
use Rattle.std.proofs.lemmas.Str.Parse.{IsNumeralModel, numerals_by_value, parse_signed_minus, parse_signed_plain}
use Rattle.cedar_language.specs.Uid.{Text}
use Rattle.cedar_json.specs.Values.{minus, are_digits, is_at_most, positive, negative, long_in}

abbrev Digits : List ℕ → Type 0
Digits ds = list_all is_ascii_digit ds ≡ true

own : IsNumeralModel Digits (digits_value 10)
own = numerals_by_value Digits (record { empty = refl; parts = λ c cs h. grind (arith, nat_tests); more = λ c cs d h. grind (arith, nat_tests) })

at_most : (most : ℕ) (ds : List ℕ) → Digits ds → 0 < length ds → digits_value 10 ds ≤ most → is_at_most most ds ≡ true
at_most most [] d some low = absurd (omega arith)
at_most most (c ∷ cs) d some low =
    let small : nat_le (digits_value 10 (c ∷ cs)) most ≡ true = grind (arith, nat_tests) in
    ap (λ b. b && nat_le (digits_value 10 (c ∷ cs)) most) d ∙ small

record IsLow (most : ℕ) (ds : List ℕ) : Type 0 where
  pub digits : Digits ds
  pub some : 0 < length ds
  pub low : digits_value 10 ds ≤ most

low_is : (most : ℕ) (ds : List ℕ) → is_at_most most ds ≡ true → IsLow most ds
low_is most [] h = absurd (true≢false (sym h))
low_is most (c ∷ cs) h =
    let both = and_parts (are_digits (c ∷ cs)) (nat_le (digits_value 10 (c ∷ cs)) most) h in
    let small = both.1 in
    record { digits = both.0; some = omega arith; low = grind (arith, nat_tests) }

some_if : {A : Type 0} (b : Bool) (a : A) → is_some (cond b (Some a) None) ≡ b
some_if true a = refl
some_if false a = refl

module _ {E : Type 0} where
  -- the number is read where its digits are of one that is low enough
  reads_low : (most : ℕ) (ds : List ℕ) (x : ℤ) (r : Result ℤ E) (P : Type 0) → (P → IsLow most ds) → (IsLow most ds → P) → OkIff r P x
      → is_ok r ≡ is_at_most most ds
  reads_low most ds x (Ok y) P to from h = let low = to h.0 in sym (at_most most ds low.digits low.some low.low)
  reads_low most ds x (Err e) P to from h = by (is_at_most most ds) refl
    where
      by : (b : Bool) → is_at_most most ds ≡ b → false ≡ b
      by true f = absurd (h (from (low_is most ds f)))
      by false f = refl

  pub long_read : (s : Text) (r : Result ℤ E) → 0 < length s → get_or s 0 0 ≢ 43 → ParsesSigned w64 10 s r → is_ok r ≡ is_some (long_in s)
  long_read [] r some plain h = absurd (omega arith)
  long_read (c ∷ cs) r some plain h = by (c == minus) refl
    where
      by : (b : Bool) → (c == minus) ≡ b → is_ok r ≡ is_some (cond b (negative cs) (positive (c ∷ cs)))
      by true e =
          let is : c ≡ 45 = eqb-true c minus e in
          reads_low 9223372036854775808 cs _ r _ (λ p. record { digits = p.0; some = p.1; low = p.2 }) (λ l. (l.digits, l.some, l.low))
          (parse_signed_minus own w64 (c ∷ cs) r h is)
          ∙ sym (some_if (is_at_most 9223372036854775808 cs) _)
      by false e =
          let other : get_or (c ∷ cs) 0 0 ≢ 45 = λ is. absurd (cc e) in
          reads_low 9223372036854775807 (c ∷ cs) _ r _ (λ p. record { digits = p.0; some = p.1; low = let l = p.2 in omega arith })
          (λ l. (l.digits, l.some, let m = l.low in omega arith)) (parse_signed_plain own w64 (c ∷ cs) r h plain other)
          ∙ sym (some_if (is_at_most 9223372036854775807 (c ∷ cs)) _)
