-- Durations: an optional `-`, and numbers of days, hours, minutes, seconds and milliseconds with their units, in this order.
-- (Cedar language reference, "duration".)
use Rattle.std.specs.Prelude.{ℕ, ℤ, ◌+◌, ◌*◌, nat_lt, Bool, false, cond, not, ◌==◌, ◌&&◌, List, [], ◌∷◌, ◌++◌}
use Rattle.std.specs.Prelude.{length, drop, codes, Option, Some, None}
use Rattle.std.specs.Fmt.{signed_decimal}
use Rattle.std.specs.Option.{option_map}
use Rattle.cedar_scalars.specs.Digits.{number, digits_in_front, behind_digits, has_minus, without_minus}
use Rattle.cedar_scalars.specs.Longs.{long_of_parts}

-- a unit of one letter stands in front: `m` is none before an `s`
abbrev pub begins_with_unit : ℕ → List ℕ → Bool
begins_with_unit unit [] = false
begins_with_unit unit (b ∷ []) = b == unit
begins_with_unit unit (b ∷ c ∷ bs) = b == unit && not (b == 109 && c == 115)

-- digits with this unit stand in front
abbrev pub has_unit : ℕ → List ℕ → Bool
has_unit unit text = nat_lt 0 (length (digits_in_front text)) && begins_with_unit unit (behind_digits text)

-- how many of the unit they say, and what stands behind; none where they are left out
abbrev pub count_of : ℕ → List ℕ → ℕ
count_of unit text = cond (has_unit unit text) (number (digits_in_front text)) 0

abbrev pub behind_unit : ℕ → List ℕ → List ℕ
behind_unit unit text = cond (has_unit unit text) (drop 1 (behind_digits text)) text

abbrev pub is_ms : List ℕ → Bool
is_ms (b ∷ c ∷ []) = b == 109 && c == 115
is_ms bs = false

-- how many milliseconds the whole text says, with their unit; none where it is empty
abbrev pub count_of_milliseconds : List ℕ → Option ℕ
count_of_milliseconds [] = Some 0
count_of_milliseconds (b ∷ bs) =
    cond (nat_lt 0 (length (digits_in_front (b ∷ bs))) && is_ms (behind_digits (b ∷ bs))) (Some (number (digits_in_front (b ∷ bs)))) None

-- how many milliseconds a text says, from the unit of seconds on, and from greater units on
abbrev pub from_seconds : List ℕ → Option ℕ
from_seconds text = option_map (λ n. count_of 115 text * 1000 + n) (count_of_milliseconds (behind_unit 115 text))

abbrev pub from_minutes : List ℕ → Option ℕ
from_minutes text = option_map (λ n. count_of 109 text * 60000 + n) (from_seconds (behind_unit 109 text))

abbrev pub from_hours : List ℕ → Option ℕ
from_hours text = option_map (λ n. count_of 104 text * 3600000 + n) (from_minutes (behind_unit 104 text))

abbrev pub from_days : List ℕ → Option ℕ
from_days text = option_map (λ n. count_of 100 text * 86400000 + n) (from_hours (behind_unit 100 text))

-- how many milliseconds a text without a sign says: some unit has to stand in it
abbrev pub magnitude : List ℕ → Option ℕ
magnitude [] = None
magnitude (b ∷ bs) = from_days (b ∷ bs)

-- how many milliseconds a text is, where it is a duration
abbrev pub duration_of : List ℕ → Option ℤ
duration_of text = long_of_parts (has_minus text) (magnitude (without_minus text))

-- how a duration is written: in milliseconds alone
abbrev pub duration_text : ℤ → List ℕ
duration_text n = signed_decimal n ++ codes "ms"
