-- Decimals as their texts say them.
use Rattle.std.proofs.Common.{◌≡◌, ◌↔◌, ℕ, ℤ, List, [], ◌∷◌, ◌++◌, length, ◌≤◌, ◌+◌, ◌*◌, ◌&&◌, ◌==◌, nat_lt, nat_le, take, drop, suc, take_at, drop_at, refl, sym, ap, ◌∙◌, subst, Bool, true, false, cond, Some, None, arith}
use lib.ListN.{take-append-drop}
use Rattle.std.proofs.lemmas.Grind.{common_steps}
use Rattle.std.proofs.lemmas.Option.{none-some, cond_some}
use Rattle.std.specs.List.{prefix_len}
use Rattle.std.specs.Char.{is_ascii_digit}
use Rattle.std.specs.Str.{all_ascii_digits}
use Rattle.cedar_scalars.specs.Digits.{number, digits_in_front, behind_digits, has_minus, without_minus, sign_text}
use Rattle.cedar_scalars.specs.Longs.{is_long, long_of, signed, long_of_parts}
use Rattle.cedar_scalars.specs.Decimals.{is_fraction, parts_of, magnitude_of, magnitude, decimal_of}
use Rattle.cedar_scalars.specs.TextRelations.{AreDigits, IsDecimalText}
use Rattle.cedar_scalars.proofs.Spelling.{and_parts}

-- ---- digits in front

pub digits_all : (t : List ℕ) → all_ascii_digits (digits_in_front t) ≡ true
digits_all [] = refl
digits_all (x ∷ xs) = by (digits_all xs) (is_ascii_digit x) refl
  where
    by : all_ascii_digits (digits_in_front xs) ≡ true → (t : Bool) → is_ascii_digit x ≡ t → all_ascii_digits (take (cond t (1 + prefix_len is_ascii_digit xs) 0) (x ∷ xs)) ≡ true
    by rest true e =
        let on : 1 + prefix_len is_ascii_digit xs ≡ suc (prefix_len is_ascii_digit xs) = omega arith in
        ap (λ n. all_ascii_digits (take n (x ∷ xs))) on ∙ ap (λ b. b && all_ascii_digits (digits_in_front xs)) e ∙ rest
    by rest false e = refl

prefix_front : (ds : List ℕ) (c : ℕ) (rest : List ℕ) → all_ascii_digits ds ≡ true → is_ascii_digit c ≡ false → prefix_len is_ascii_digit (ds ++ c ∷ rest) ≡ length ds
prefix_front [] c rest all stop = ap (λ b. cond b (1 + prefix_len is_ascii_digit rest) 0) stop
prefix_front (d ∷ ds) c rest all stop =
    let parts = and_parts (is_ascii_digit d) (all_ascii_digits ds) all in
    let q = prefix_front ds c rest parts.1 stop in
    ap (λ b. cond b (1 + prefix_len is_ascii_digit (ds ++ c ∷ rest)) 0) parts.0 ∙ omega (arith, q)

pub in_front : (ds : List ℕ) (c : ℕ) (rest : List ℕ) → all_ascii_digits ds ≡ true → is_ascii_digit c ≡ false → digits_in_front (ds ++ c ∷ rest) ≡ ds
in_front ds c rest all stop = ap (λ k. take k (ds ++ c ∷ rest)) (prefix_front ds c rest all stop) ∙ take_at ds (c ∷ rest) (length ds) refl

pub behind : (ds : List ℕ) (c : ℕ) (rest : List ℕ) → all_ascii_digits ds ≡ true → is_ascii_digit c ≡ false → behind_digits (ds ++ c ∷ rest) ≡ c ∷ rest
behind ds c rest all stop = ap (λ k. drop k (ds ++ c ∷ rest)) (prefix_front ds c rest all stop) ∙ drop_at ds (c ∷ rest) (length ds) refl

-- ---- signs

pub same_byte : (b c : ℕ) → (b == c) ≡ true → b ≡ c
same_byte b c e = grind (arith, common_steps, e)

pub signed_apart : (text : List ℕ) → text ≡ sign_text (has_minus text) ++ without_minus text
signed_apart [] = refl
signed_apart (b ∷ bs) = by (b == 45) refl
  where
    by : (t : Bool) → (b == 45) ≡ t → b ∷ bs ≡ sign_text t ++ cond t bs (b ∷ bs)
    by true e = ap (λ x. x ∷ bs) (same_byte b 45 e)
    by false e = refl

pub digit_is_no_sign : (w : ℕ) → is_ascii_digit w ≡ true → (w == 45) ≡ false
digit_is_no_sign w e = grind (arith, common_steps, e)

-- ---- from the value to the words

fraction_read : (text : List ℕ) (n : ℤ) (negative : Bool) (whole rest : List ℕ) → text ≡ sign_text negative ++ (whole ++ rest) → all_ascii_digits whole ≡ true → long_of_parts negative (magnitude_of whole rest) ≡ Some n → IsDecimalText text n
fraction_read text n negative whole [] split all e = absurd (none-some n e)
fraction_read text n negative whole (b ∷ fraction) split all e = by (b == 46 && (is_fraction fraction && nat_lt 0 (length whole))) refl e
  where
    by : (t : Bool) → (b == 46 && (is_fraction fraction && nat_lt 0 (length whole))) ≡ t → long_of_parts negative (cond t (Some (number whole * 10000 + parts_of fraction)) None) ≡ Some n → IsDecimalText text n
    by false q e = absurd (none-some n e)
    by true q e =
        let p = and_parts (b == 46) (is_fraction fraction && nat_lt 0 (length whole)) q in
        let r = and_parts (is_fraction fraction) (nat_lt 0 (length whole)) p.1 in
        let f = and_parts (all_ascii_digits fraction) (nat_lt 0 (length fraction) && nat_le (length fraction) 4) r.0 in
        let l = and_parts (nat_lt 0 (length fraction)) (nat_le (length fraction) 4) f.1 in
        let z = signed negative (number whole * 10000 + parts_of fraction) in
        let long = cond_some (is_long z) z n e in
        record {
          negative = negative;
          whole = whole;
          fraction = fraction;
          spelled = split ∙ ap (λ c. sign_text negative ++ (whole ++ c ∷ fraction)) (same_byte b 46 p.0);
          whole_digits = (all, grind (arith, common_steps, r.1));
          fraction_digits = (f.0, grind (arith, common_steps, l.0));
          few = grind (arith, common_steps, l.1);
          value = sym long.1;
          long = subst (λ y. is_long y ≡ true) long.1 long.0;
        }

parts_read : (text : List ℕ) (n : ℤ) (negative : Bool) (t : List ℕ) → text ≡ sign_text negative ++ t → long_of_parts negative (magnitude t) ≡ Some n → IsDecimalText text n
parts_read text n negative t split e =
    fraction_read text n negative (digits_in_front t) (behind_digits t) (split ∙ ap (λ u. sign_text negative ++ u) (sym (take-append-drop (prefix_len is_ascii_digit t) t))) (digits_all t) e

-- ---- from the words to the value

sign_gone : (negative : Bool) (whole rest : List ℕ) → AreDigits whole → decimal_of (sign_text negative ++ (whole ++ rest)) ≡ long_of_parts negative (magnitude (whole ++ rest))
sign_gone true whole rest h = refl
sign_gone false [] rest h = absurd (omega (arith, h.1))
sign_gone false (w ∷ ws) rest h =
    let first = and_parts (is_ascii_digit w) (all_ascii_digits ws) h.0 in
    ap (λ b. long_of_parts b (magnitude (cond b (ws ++ rest) (w ∷ (ws ++ rest))))) (digit_is_no_sign w first.0)

holds : (whole fraction : List ℕ) → AreDigits whole → AreDigits fraction → length fraction ≤ 4 → (is_fraction fraction && nat_lt 0 (length whole)) ≡ true
holds whole fraction h k few = grind (arith, common_steps, h.1, k.0, k.1, few)

whole_magnitude : (whole fraction : List ℕ) → AreDigits whole → AreDigits fraction → length fraction ≤ 4 → magnitude (whole ++ 46 ∷ fraction) ≡ Some (number whole * 10000 + parts_of fraction)
whole_magnitude whole fraction h k few =
    ap (λ ds. magnitude_of ds (behind_digits (whole ++ 46 ∷ fraction))) (in_front whole 46 fraction h.0 refl)
    ∙ ap (magnitude_of whole) (behind whole 46 fraction h.0 refl)
    ∙ ap (λ b. cond b (Some (number whole * 10000 + parts_of fraction)) None) (holds whole fraction h k few)

words_read : (text : List ℕ) (n : ℤ) → IsDecimalText text n → decimal_of text ≡ Some n
words_read text n d =
    ap decimal_of d.spelled
    ∙ sign_gone d.negative d.whole (46 ∷ d.fraction) d.whole_digits
    ∙ ap (long_of_parts d.negative) (whole_magnitude d.whole d.fraction d.whole_digits d.fraction_digits d.few)
    ∙ ap long_of (sym d.value)
    ∙ ap (λ b. cond b (Some n) None) d.long

pub decimals_read : (text : List ℕ) (n : ℤ) → (decimal_of text ≡ Some n) ↔ IsDecimalText text n
decimals_read text n = (parts_read text n (has_minus text) (without_minus text) (signed_apart text), words_read text n)
