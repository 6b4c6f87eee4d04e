-- The texts in words, as relations.
use Rattle.std.specs.Prelude.{◌≡◌, ◌≢◌, ◌<◌, ◌≤◌, ℕ, ℤ, ◌+◌, ◌-◌, ◌*◌, ◌^◌, Bool, true, List, [], ◌++◌, length, codes}
use Rattle.std.specs.Str.{all_ascii_digits}
use Rattle.cedar_scalars.specs.Digits.{number, sign_text}
use Rattle.cedar_scalars.specs.Longs.{is_long, signed}

-- some digits
abbrev pub AreDigits : List ℕ → Type 0
AreDigits ds = (all_ascii_digits ds ≡ true) × (0 < length ds)

-- a text is a decimal of so many ten thousandth parts
pub record IsDecimalText (text : List ℕ) (n : ℤ) : Type 0 where
  pub negative : Bool
  pub whole : List ℕ
  pub fraction : List ℕ
  pub spelled : text ≡ sign_text negative ++ (whole ++ (codes "." ++ fraction))
  pub whole_digits : AreDigits whole
  pub fraction_digits : AreDigits fraction
  pub few : length fraction ≤ 4
  pub value : n ≡ signed negative (number whole * 10000 + number fraction * 10 ^ (4 - length fraction))
  pub long : is_long n ≡ true

-- digits with their unit; left out they count nothing
pub data IsPart (unit : List ℕ) : List ℕ → ℕ → Type 0 where
  left_out : IsPart unit [] 0
  counted : (ds : List ℕ) → AreDigits ds → IsPart unit (ds ++ unit) (number ds)

-- a text is a duration of so many milliseconds
pub record IsDurationText (text : List ℕ) (n : ℤ) : Type 0 where
  pub negative : Bool
  pub days_text : List ℕ
  pub hours_text : List ℕ
  pub minutes_text : List ℕ
  pub seconds_text : List ℕ
  pub milliseconds_text : List ℕ
  pub d : ℕ
  pub h : ℕ
  pub m : ℕ
  pub s : ℕ
  pub ms : ℕ
  pub days : IsPart (codes "d") days_text d
  pub hours : IsPart (codes "h") hours_text h
  pub minutes : IsPart (codes "m") minutes_text m
  pub seconds : IsPart (codes "s") seconds_text s
  pub milliseconds : IsPart (codes "ms") milliseconds_text ms
  pub some : days_text ++ (hours_text ++ (minutes_text ++ (seconds_text ++ milliseconds_text))) ≢ []
  pub spelled : text ≡ sign_text negative ++ (days_text ++ (hours_text ++ (minutes_text ++ (seconds_text ++ milliseconds_text))))
  pub value : n ≡ signed negative (d * 86400000 + (h * 3600000 + (m * 60000 + (s * 1000 + ms))))
  pub long : is_long n ≡ true
