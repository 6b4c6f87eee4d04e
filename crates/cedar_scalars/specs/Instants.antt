-- Instants. A text of one is `YYYY-MM-DD`, and where wanted behind it `Thh:mm:ss`, a point and three digits, and `Z` or a sign
-- with `hhmm`. (Cedar language reference, "datetime".)
use Rattle.std.specs.Prelude.{ℕ, ℤ, pos, ◌+◌, ◌-◌, ◌*◌, ◌+ℤ◌, ◌-ℤ◌, Bool, cond, ◌==◌, ◌&&◌, ◌||◌, nat_lt, List, length}
use Rattle.std.specs.Prelude.{slice_index, Option, Some, None}
use Rattle.std.specs.Option.{option_map}
use Rattle.std.specs.Char.{is_ascii_digit}
use Rattle.std.specs.Int.{int_rem_euclid}
use Rattle.cedar_scalars.specs.Longs.{long_of, signed}
use Rattle.cedar_scalars.specs.Calendar.{day_number}

-- the number of two digits
abbrev pub two_digits : ℕ → ℕ → Option ℕ
two_digits a b = cond (is_ascii_digit a && is_ascii_digit b) (Some ((a - 48) * 10 + (b - 48))) None

-- that of the two that stand at a place of a text
abbrev pub two_at : List ℕ → ℕ → Option ℕ
two_at text k = two_digits (slice_index text k) (slice_index text (k + 1))

-- the number of four digits, by its halves
abbrev pub joined : Option ℕ → Option ℕ → Option ℕ
joined (Some a) (Some b) = Some (a * 100 + b)
joined a b = None

-- the year of the four digits in front
abbrev pub year_in : List ℕ → Option ℕ
year_in text = joined (two_at text 0) (two_at text 2)

-- the day of a year, a month and a day of it, where all are there and the calendar has it
abbrev pub dated : Option ℕ → Option ℕ → Option ℕ → Option ℕ
dated (Some y) (Some m) (Some d) = day_number y m d
dated y m d = None

-- the day of the date in front
abbrev pub date_in : List ℕ → Option ℕ
date_in text =
    cond (slice_index text 4 == 45 && slice_index text 7 == 45) (dated (year_in text) (two_at text 5) (two_at text 8)) None

-- the minutes of hours below 24 and minutes below 60
abbrev pub minutes_of : Option ℕ → Option ℕ → Option ℕ
minutes_of (Some h) (Some m) = cond (nat_lt h 24 && nat_lt m 60) (Some (h * 60 + m)) None
minutes_of h m = None

-- whether a point stands behind the seconds
abbrev pub has_point : List ℕ → Bool
has_point text = slice_index text 19 == 46

-- a number and one digit more
abbrev pub with_digit : Option ℕ → Option ℕ → Option ℕ
with_digit (Some a) (Some b) = Some (a * 10 + b)
with_digit a b = None

-- the number of the three digits behind the point, if there is one
abbrev pub milliseconds_in : List ℕ → Option ℕ
milliseconds_in text = cond (has_point text) (with_digit (two_at text 20) (two_digits 48 (slice_index text 22))) (Some 0)

-- the milliseconds of minutes, of seconds below 60 and of milliseconds
abbrev pub timed : Option ℕ → Option ℕ → Option ℕ → Option ℕ
timed (Some m) (Some s) (Some ms) = cond (nat_lt s 60) (Some (m * 60000 + s * 1000 + ms)) None
timed m s ms = None

-- the milliseconds of the day
abbrev pub time_in : List ℕ → Option ℕ
time_in text =
    cond (slice_index text 10 == 84 && (slice_index text 13 == 58 && slice_index text 16 == 58))
    (timed (minutes_of (two_at text 11) (two_at text 14)) (two_at text 17) (milliseconds_in text)) None

-- where the zone stands
abbrev pub zone_place : List ℕ → ℕ
zone_place text = cond (has_point text) 23 19

-- how many milliseconds a zone is ahead
abbrev pub ahead : Bool → ℕ → ℤ
ahead behind minutes = signed behind (minutes * 60000)

-- how many milliseconds the zone at this place is ahead, with which the text ends
abbrev pub zone_at : List ℕ → ℕ → Option ℤ
zone_at text z =
    cond (slice_index text z == 90) (cond (length text == z + 1) (Some (pos 0)) None)
    (cond ((slice_index text z == 43 || slice_index text z == 45) && length text == z + 5)
    (option_map (ahead (slice_index text z == 45)) (minutes_of (two_at text (z + 1)) (two_at text (z + 3)))) None)

-- the milliseconds from the beginning of 1970 on
abbrev pub instant : ℕ → ℕ → ℤ → ℤ
instant day time zone = pos (day * 86400000 + time) -ℤ pos 62167219200000 -ℤ zone

abbrev pub placed : Option ℕ → Option ℕ → Option ℤ → Option ℤ
placed (Some d) (Some t) (Some z) = Some (instant d t z)
placed d t z = None

-- the instant of a text, where it is one: a date alone is its midnight
abbrev pub instant_of : List ℕ → Option ℤ
instant_of text =
    cond (length text == 10) (placed (date_in text) (Some 0) (Some (pos 0)))
    (placed (date_in text) (time_in text) (zone_at text (zone_place text)))

-- ---- what is reckoned with them

-- the instant so much later, where it is a long
abbrev pub offset_by : ℤ → ℤ → Option ℤ
offset_by t d = long_of (t +ℤ d)

-- how much later the first is than the second, where that is a long
abbrev pub time_between : ℤ → ℤ → Option ℤ
time_between t u = long_of (t -ℤ u)

-- how much later it is than the midnight before: a day has 86400000 milliseconds
abbrev pub time_of_day : ℤ → ℤ
time_of_day t = int_rem_euclid t (pos 86400000)

-- the midnight before, where it is a long
abbrev pub midnight_of : ℤ → Option ℤ
midnight_of t = long_of (t -ℤ time_of_day t)
