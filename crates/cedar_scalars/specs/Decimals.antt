-- Decimals: an optional `-`, digits, a point, and one to four digits. (Cedar language reference, "decimal".)
use Rattle.std.specs.Prelude.{ℕ, ℤ, unsigned_abs, ◌+◌, ◌-◌, ◌*◌, ◌/◌, ◌%◌, ◌^◌, nat_lt, nat_le}
use Rattle.std.specs.Prelude.{Bool, cond, ◌==◌, ◌&&◌, List, [], ◌∷◌, ◌++◌, length, codes, Option, Some, None}
use Rattle.std.specs.Fmt.{decimal}
use Rattle.std.specs.Int.{is_negative}
use Rattle.std.specs.Str.{all_ascii_digits}
use Rattle.cedar_scalars.specs.Digits.{number, digits_in_front, behind_digits, has_minus, without_minus, sign_text}
use Rattle.cedar_scalars.specs.Longs.{long_of_parts}

-- one to four digits
abbrev pub is_fraction : List ℕ → Bool
is_fraction ds = all_ascii_digits ds && (nat_lt 0 (length ds) && nat_le (length ds) 4)

-- how many ten thousandth parts they are behind a point
abbrev pub parts_of : List ℕ → ℕ
parts_of ds = number ds * 10 ^ (4 - length ds)

-- how many ten thousandth parts these digits and what stands behind them are
abbrev pub magnitude_of : List ℕ → List ℕ → Option ℕ
magnitude_of whole [] = None
magnitude_of whole (b ∷ fraction) =
    cond (b == 46 && (is_fraction fraction && nat_lt 0 (length whole))) (Some (number whole * 10000 + parts_of fraction)) None

-- how many a text without a sign is
abbrev pub magnitude : List ℕ → Option ℕ
magnitude text = magnitude_of (digits_in_front text) (behind_digits text)

-- how many ten thousandth parts a text is, where it is a decimal
abbrev pub decimal_of : List ℕ → Option ℤ
decimal_of text = long_of_parts (has_minus text) (magnitude (without_minus text))

-- ---- how a decimal is written: with all four digits behind the point

abbrev pub four_digits : ℕ → List ℕ
four_digits n = (48 + n / 1000) ∷ (48 + n / 100 % 10) ∷ (48 + n / 10 % 10) ∷ (48 + n % 10) ∷ []

abbrev pub decimal_text : ℤ → List ℕ
decimal_text n =
    sign_text (is_negative n) ++ (decimal (unsigned_abs n / 10000) ++ (codes "." ++ four_digits (unsigned_abs n % 10000)))
