-- What is true of these types.
use Rattle.std.specs.Prelude.{◌≡◌, ◌↔◌, ℕ, ℤ, pos, ◌+ℤ◌, ◌≤ℤ◌, ◌<ℤ◌, ◌<◌, ◌≤◌, ◌⊎◌, List, true, Some}
use Rattle.std.specs.Ordering.{nat_cmp, int_cmp}
use Rattle.std.specs.Cmp.Lexicographic.{slice_cmp}
use Rattle.cedar_scalars.specs.Longs.{is_long}
use Rattle.cedar_scalars.specs.Keys.{key_of, number_in}
use Rattle.cedar_scalars.specs.Decimals.{decimal_of, decimal_text}
use Rattle.cedar_scalars.specs.Durations.{duration_of, duration_text}
use Rattle.cedar_scalars.specs.Calendar.{day_number}
use Rattle.cedar_scalars.specs.Instants.{offset_by, time_between, time_of_day, midnight_of}
use Rattle.cedar_scalars.specs.Ranges.{range_in, key_of as range_key, width, range_of, range_text, IsProperRange, HasAddress, is_in_range}
use Rattle.cedar_scalars.specs.TextRelations.{IsDecimalText, IsDurationText}
use Rattle.cedar_scalars.specs.declared.ip_ranges.IpRange.{IpRange}

-- ---- keys

-- the long of a key is the one whose key it is
abbrev pub KeysAreRead : Type 0
KeysAreRead = (n : ℤ) → is_long n ≡ true → number_in (key_of n) ≡ Some n

abbrev pub RangeKeysAreRead : Type 0
RangeKeysAreRead = (r : IpRange) → IsProperRange r → range_in (range_key r) ≡ Some r

-- byte by byte, keys are ordered as their longs
abbrev pub KeysGoAsLongs : Type 0
KeysGoAsLongs = (m n : ℤ) → is_long m ≡ true → is_long n ≡ true → slice_cmp nat_cmp (key_of m) (key_of n) ≡ int_cmp m n

-- ---- texts

-- the texts of decimals are those that the words say
abbrev pub DecimalsAreRead : Type 0
DecimalsAreRead = (text : List ℕ) (n : ℤ) → (decimal_of text ≡ Some n) ↔ IsDecimalText text n

-- the texts of durations are those that the words say
abbrev pub DurationsAreRead : Type 0
DurationsAreRead = (text : List ℕ) (n : ℤ) → (duration_of text ≡ Some n) ↔ IsDurationText text n

-- what is written is read back
abbrev pub DecimalsAreReadBack : Type 0
DecimalsAreReadBack = (n : ℤ) → is_long n ≡ true → decimal_of (decimal_text n) ≡ Some n

abbrev pub DurationsAreReadBack : Type 0
DurationsAreReadBack = (n : ℤ) → is_long n ≡ true → duration_of (duration_text n) ≡ Some n

abbrev pub RangesAreReadBack : Type 0
RangesAreReadBack = (r : IpRange) → IsProperRange r → range_of (range_text r) ≡ Some r

-- ranges of texts have addresses as there are, and no more bits than these
abbrev pub RangesOfTextsAreProper : Type 0
RangesOfTextsAreProper = (text : List ℕ) (r : IpRange) → range_of text ≡ Some r → IsProperRange r

-- ---- instants

-- an offset and a further one are that by the sum of both, wherever the first has an instant
abbrev pub OffsetsAdd : Type 0
OffsetsAdd = (t d e u : ℤ) → offset_by t d ≡ Some u → offset_by u e ≡ offset_by t (d +ℤ e)

-- the time between an instant and an offset of it is what it was offset by
abbrev pub OffsetsAreBetween : Type 0
OffsetsAreBetween = (t d u : ℤ) → is_long d ≡ true → offset_by t d ≡ Some u → time_between u t ≡ Some d

-- times of a day are from 0 on and less than a day
abbrev pub TimesAreOfOneDay : Type 0
TimesAreOfOneDay = (t : ℤ) → (pos 0 ≤ℤ time_of_day t) × (time_of_day t <ℤ pos 86400000)

-- an instant is its midnight and its time of day, and midnights are their own
abbrev pub InstantsAreTheirParts : Type 0
InstantsAreTheirParts = (t d : ℤ) → midnight_of t ≡ Some d → d +ℤ time_of_day t ≡ t

abbrev pub MidnightsStay : Type 0
MidnightsStay = (t d : ℤ) → midnight_of t ≡ Some d → midnight_of d ≡ Some d

-- a date, by its year, month and day, stands before another one
abbrev pub IsBefore : ℕ → ℕ → ℕ → ℕ → ℕ → ℕ → Type 0
IsBefore y m d z k c = (y < z) ⊎ ((y ≡ z) × ((m < k) ⊎ ((m ≡ k) × (d < c))))

-- so two dates have one day exactly where they are one
abbrev pub DaysGoAsDates : Type 0
DaysGoAsDates = (y m d n z k c p : ℕ) → day_number y m d ≡ Some n → day_number z k c ≡ Some p → IsBefore y m d z k c → n < p

-- each day from the first of year 0 on is that of a date
abbrev pub DaysHaveDates : Type 0
DaysHaveDates = (n : ℕ) → (y m d : ℕ) × (day_number y m d ≡ Some n)

-- ---- ranges of IP addresses

-- each range is within itself, and within what it is within of another
abbrev pub RangesAreWithinThemselves : Type 0
RangesAreWithinThemselves = (a : IpRange) → is_in_range a a ≡ true

abbrev pub RangesAreNested : Type 0
RangesAreNested = (a b c : IpRange) → is_in_range a b ≡ true → is_in_range b c ≡ true → is_in_range a c ≡ true

-- of two ranges of one version, the first is within the second exactly where each address of the first is one of the second
abbrev pub RangesAreTheirAddresses : Type 0
RangesAreTheirAddresses =
    (a b : IpRange) → width a.address ≡ width b.address → b.prefix ≤ width b.address →
    (is_in_range a b ≡ true) ↔ ((n : ℕ) → HasAddress a n → HasAddress b n)
