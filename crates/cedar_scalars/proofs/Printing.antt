-- What is written is read back.
use Rattle.std.proofs.Common.{◌≡◌, ℕ, ℤ, pos, negsuc, unsigned_abs, List, [], ◌∷◌, ◌++◌, length, drop, neg_ℤ, ◌<◌, ◌+◌, ◌*◌, ◌/◌, ◌%◌, ◌^◌, ◌&&◌}
use Rattle.std.proofs.Common.{codes, nat_lt, suc, Option, Some, None, option_map, Bool, true, false, cond, refl, sym, ap, ◌∙◌, arith, rules}
use Rattle.std.proofs.lemmas.Grind.{common_steps}
use Rattle.std.proofs.lemmas.Int.{ints}
use Rattle.std.proofs.lemmas.Fmt.{decimal_digit, digits_decimal, digits_value-decimal, decimal_nonempty}
use Rattle.std.proofs.lemmas.Str.Parse.{IsNumeralModel, numerals_by_fold, tells_all_ascii_digits}
use Rattle.std.specs.Fmt.{decimal}
use Rattle.std.specs.Int.{is_negative}
use Rattle.std.specs.Char.{is_ascii_digit}
use Rattle.std.specs.Str.{all_ascii_digits}
use Rattle.cedar_scalars.specs.Digits.{number_after, number, digits_in_front, behind_digits}
use Rattle.cedar_scalars.specs.Longs.{is_long, long_of, signed, long_of_parts}
use Rattle.cedar_scalars.specs.Decimals.{decimal_of, four_digits, decimal_text}
use Rattle.cedar_scalars.specs.Durations.{begins_with_unit, has_unit, count_of, behind_unit, is_ms, count_of_milliseconds, from_seconds}
use Rattle.cedar_scalars.specs.Durations.{from_minutes, from_hours, from_days, magnitude, duration_of, duration_text}
use Rattle.cedar_scalars.specs.TextRelations.{AreDigits}
use Rattle.cedar_scalars.proofs.Longs.{long_is}
use Rattle.cedar_scalars.proofs.Spelling.{and_parts}
use Rattle.cedar_scalars.proofs.DecimalTexts.{decimals_read, in_front, behind, digit_is_no_sign}

pub digit_model : IsNumeralModel (λ ds. all_ascii_digits ds ≡ true) (number_after 0)
digit_model = numerals_by_fold _ tells_all_ascii_digits number_after (search rules)

-- ---- the numbers written

abs_fits : (n : ℤ) → is_long n ≡ true → unsigned_abs n < 2 ^ 64
abs_fits (pos k) h = let lt : k < 2 ^ 63 = grind (arith, common_steps, h) in omega (arith, ints, lt)
abs_fits (negsuc k) h = let lt : k < 2 ^ 63 = grind (arith, common_steps, h) in omega (arith, ints, lt)

signed_back : (n : ℤ) → signed (is_negative n) (unsigned_abs n) ≡ n
signed_back (pos k) = grind (arith, common_steps)
signed_back (negsuc k) = grind (arith, common_steps)

decimal_digits : (n : ℕ) → n < 2 ^ 64 → AreDigits (decimal n)
decimal_digits n h = (digits_decimal digit_model n h, decimal_nonempty n h)

-- ---- decimals

one_digit : (d : ℕ) → d < 10 → is_ascii_digit (48 + d) ≡ true
one_digit d h = grind (arith, common_steps, h)

pub four_written : (n : ℕ) → n < 10000 → decimal (n / 1000) ++ (decimal (n / 100 % 10) ++ (decimal (n / 10 % 10) ++ decimal (n % 10))) ≡ four_digits n
four_written n h =
    ap (λ x. x ++ (decimal (n / 100 % 10) ++ (decimal (n / 10 % 10) ++ decimal (n % 10)))) (decimal_digit (n / 1000) (omega (arith, h)))
    ∙ ap (λ x. (48 + n / 1000) ∷ (x ++ (decimal (n / 10 % 10) ++ decimal (n % 10)))) (decimal_digit (n / 100 % 10) (omega arith))
    ∙ ap (λ x. (48 + n / 1000) ∷ (48 + n / 100 % 10) ∷ (x ++ decimal (n % 10))) (decimal_digit (n / 10 % 10) (omega arith))
    ∙ ap (λ x. (48 + n / 1000) ∷ (48 + n / 100 % 10) ∷ (48 + n / 10 % 10) ∷ x) (decimal_digit (n % 10) (omega arith))

four_are_digits : (n : ℕ) → n < 10000 → all_ascii_digits (four_digits n) ≡ true
four_are_digits n h =
    ap (λ b. b && all_ascii_digits ((48 + n / 100 % 10) ∷ (48 + n / 10 % 10) ∷ (48 + n % 10) ∷ [])) (one_digit (n / 1000) (omega (arith, h)))
    ∙ ap (λ b. b && all_ascii_digits ((48 + n / 10 % 10) ∷ (48 + n % 10) ∷ [])) (one_digit (n / 100 % 10) (omega arith))
    ∙ ap (λ b. b && all_ascii_digits ((48 + n % 10) ∷ [])) (one_digit (n / 10 % 10) (omega arith))
    ∙ ap (λ b. b && true) (one_digit (n % 10) (omega arith))

four_say : (n : ℕ) → n < 10000 → number (four_digits n) ≡ n
four_say n h = omega (arith, h)

pub decimal_back : (n : ℤ) → is_long n ≡ true → decimal_of (decimal_text n) ≡ Some n
decimal_back n long =
    let m = unsigned_abs n in
    let fits : m / 10000 < 2 ^ 64 = omega (arith, abs_fits n long) in
    let small : m % 10000 < 10000 = omega arith in
    let whole : number (decimal (m / 10000)) ≡ m / 10000 = digits_value-decimal digit_model (m / 10000) fits in
    let parts : number (decimal (m / 10000)) * 10000 + number (four_digits (m % 10000)) * 1 ≡ m =
    ap (λ w. w * 10000 + number (four_digits (m % 10000)) * 1) whole
    ∙ ap (λ f. m / 10000 * 10000 + f * 1) (four_say (m % 10000) small)
    ∙ omega arith in
    (decimals_read (decimal_text n) n).1 (record {
      negative = is_negative n;
      whole = decimal (m / 10000);
      fraction = four_digits (m % 10000);
      spelled = refl;
      whole_digits = decimal_digits (m / 10000) fits;
      fraction_digits = (four_are_digits (m % 10000) small, omega arith);
      few = omega arith;
      value = sym (ap (signed (is_negative n)) parts ∙ signed_back n);
      long = long;
    })

-- ---- durations

and_false : (a b : Bool) → b ≡ false → (a && b) ≡ false
and_false true b e = e
and_false false b e = refl

-- a unit that doesn't stand behind the digits counts nothing
skipped : (unit weight : ℕ) (text : List ℕ) (further : List ℕ → Option ℕ) (n : ℕ) → begins_with_unit unit (behind_digits text) ≡ false →
    further text ≡ Some n → option_map (λ k. count_of unit text * weight + k) (further (behind_unit unit text)) ≡ Some n
skipped unit weight text further n out e =
    let absent : has_unit unit text ≡ false = and_false (nat_lt 0 (length (digits_in_front text))) (begins_with_unit unit (behind_digits text)) out in
    let count : count_of unit text ≡ 0 = ap (λ b. cond b (number (digits_in_front text)) 0) absent in
    let rest : further (behind_unit unit text) ≡ Some n = ap (λ b. further (cond b (drop 1 (behind_digits text)) text)) absent ∙ e in
    ap (λ o. option_map (λ k. count_of unit text * weight + k) o) rest
    ∙ ap (λ c. Some (c * weight + n)) count
    ∙ ap Some (omega arith)

pub last_read : (ds : List ℕ) → AreDigits ds → count_of_milliseconds (ds ++ codes "ms") ≡ Some (number ds)
last_read [] h = absurd (omega (arith, h.1))
last_read (d ∷ ds) h =
    let text = d ∷ (ds ++ codes "ms") in
    let some : nat_lt 0 (length (d ∷ ds)) ≡ true = grind (arith, common_steps, h.1) in
    ap (λ t. cond (nat_lt 0 (length t) && is_ms (behind_digits text)) (Some (number t)) None) (in_front (d ∷ ds) 109 (115 ∷ []) h.0 refl)
    ∙ ap (λ t. cond (nat_lt 0 (length (d ∷ ds)) && is_ms t) (Some (number (d ∷ ds))) None) (behind (d ∷ ds) 109 (115 ∷ []) h.0 refl)
    ∙ ap (λ b. cond (b && true) (Some (number (d ∷ ds))) None) some

days_read : (ds : List ℕ) → AreDigits ds → from_days (ds ++ codes "ms") ≡ Some (number ds)
days_read ds h =
    let text = ds ++ codes "ms" in
    let back : behind_digits text ≡ codes "ms" = behind ds 109 (115 ∷ []) h.0 refl in
    let seconds = skipped 115 1000 text count_of_milliseconds (number ds) (ap (begins_with_unit 115) back) (last_read ds h) in
    let minutes = skipped 109 60000 text from_seconds (number ds) (ap (begins_with_unit 109) back) seconds in
    let hours = skipped 104 3600000 text from_minutes (number ds) (ap (begins_with_unit 104) back) minutes in
    skipped 100 86400000 text from_hours (number ds) (ap (begins_with_unit 100) back) hours

magnitude_read : (ds : List ℕ) → AreDigits ds → magnitude (ds ++ codes "ms") ≡ Some (number ds)
magnitude_read [] h = absurd (omega (arith, h.1))
magnitude_read (d ∷ ds) h = days_read (d ∷ ds) h

plain_read : (ds : List ℕ) → AreDigits ds → duration_of (ds ++ codes "ms") ≡ long_of (pos (number ds))
plain_read [] h = absurd (omega (arith, h.1))
plain_read (d ∷ ds) h =
    let first = and_parts (is_ascii_digit d) (all_ascii_digits ds) h.0 in
    ap (λ b. long_of_parts b (magnitude (cond b (ds ++ codes "ms") (d ∷ (ds ++ codes "ms"))))) (digit_is_no_sign d first.0)
    ∙ ap (long_of_parts false) (magnitude_read (d ∷ ds) h)

pub duration_back : (n : ℤ) → is_long n ≡ true → duration_of (duration_text n) ≡ Some n
duration_back (pos k) long =
    let fits : k < 2 ^ 64 = abs_fits (pos k) long in
    plain_read (decimal k) (decimal_digits k fits) ∙ ap (λ m. long_of (pos m)) (digits_value-decimal digit_model k fits) ∙ long_is (pos k) long
duration_back (negsuc k) long =
    let fits : suc k < 2 ^ 64 = abs_fits (negsuc k) long in
    ap (long_of_parts true) (magnitude_read (decimal (suc k)) (decimal_digits (suc k) fits))
    ∙ ap (λ m. long_of (neg_ℤ (pos m))) (digits_value-decimal digit_model (suc k) fits)
    ∙ long_is (negsuc k) long
