-- Days go as their dates do, and each has one.
use Rattle.std.proofs.Common.{◌≡◌, ℕ, zero, suc, ◌<◌, ◌≤◌, ◌+◌, ◌-◌, ◌&&◌, ◌⊎◌, inl, inr, nat_lt, nat_le, Bool, true, false, cond, Some, None}
use Rattle.std.proofs.Common.{refl, sym, ap, ◌∙◌, arith}
use Rattle.std.proofs.lemmas.Grind.{common_steps}
use Rattle.std.proofs.lemmas.Option.{cond_some}
use Rattle.cedar_scalars.specs.Calendar.{is_leap, year_length, month_length, days_before_year, days_before_month, day_number}
use Rattle.cedar_scalars.specs.Laws.{IsBefore}
use Rattle.cedar_scalars.proofs.Spelling.{and_parts}

which : (x y : ℕ) → (x < y) ⊎ ((x ≡ y) ⊎ (y < x))
which x y = grind arith

-- ---- the days before rise

years_rise : (y z : ℕ) → y < z → days_before_year y + year_length y ≤ days_before_year z
years_rise y zero lt = absurd (omega (arith, lt))
years_rise y (suc z) lt =
    elim (which y z) [
      | inl less ↦ (let r = years_rise y z less in omega (arith, r))
      | inr (inl e) ↦ (let r = ap (λ x. days_before_year x + year_length x) e in omega (arith, r))
      | inr (inr more) ↦ absurd (omega (arith, lt, more))
    ]

months_rise : (y m z : ℕ) → m < z → days_before_month y m + month_length y m ≤ days_before_month y z
months_rise y m zero lt = absurd (omega (arith, lt))
months_rise y m (suc z) lt =
    elim (which m z) [
      | inl less ↦ (let r = months_rise y m z less in omega (arith, r))
      | inr (inl e) ↦ (let r = ap (λ x. days_before_month y x + month_length y x) e in omega (arith, r))
      | inr (inr more) ↦ absurd (omega (arith, lt, more))
    ]

twelve : (t : Bool) → 0 + 0 + 31 + cond t 29 28 + 31 + 30 + 31 + 30 + 31 + 31 + 30 + 31 + 30 + 31 ≡ cond t 366 365
twelve true = refl
twelve false = refl

whole_year : (y : ℕ) → days_before_month y 13 ≡ year_length y
whole_year y = twelve (is_leap y)

is_month : (y m : ℕ) → 0 < month_length y m → m < 13
is_month y m some = grind (arith, common_steps, some)

-- ---- a date that the calendar has

record Dated (y m d n : ℕ) : Type 0 where
  some : 0 < d
  fits : d ≤ month_length y m
  number : n ≡ days_before_year y + days_before_month y m + (d - 1)

dated : (y m d n : ℕ) → day_number y m d ≡ Some n → Dated y m d n
dated y m d n e =
    let given = cond_some (nat_lt 0 d && nat_le d (month_length y m)) (days_before_year y + days_before_month y m + (d - 1)) n e in
    let parts = and_parts (nat_lt 0 d) (nat_le d (month_length y m)) given.0 in
    record {
      some = grind (arith, common_steps, parts.0);
      fits = grind (arith, common_steps, parts.1);
      number = sym given.1;
    }

within_year : (y m d n : ℕ) → Dated y m d n → n < days_before_year y + year_length y
within_year y m d n h =
    let length : 0 < month_length y m = omega (arith, h.some, h.fits) in
    let months = months_rise y m 13 (is_month y m length) in
    let whole = whole_year y in
    omega (arith, h.some, h.fits, h.number, months, whole)

pub days_rise : (y m d n z k c p : ℕ) → day_number y m d ≡ Some n → day_number z k c ≡ Some p → IsBefore y m d z k c → n < p
days_rise y m d n z k c p e f (inl less) =
    let h = dated y m d n e in
    let i = dated z k c p f in
    let within = within_year y m d n h in
    let years = years_rise y z less in
    omega (arith, within, years, i.number)
days_rise y m d n z k c p e f (inr (same, inl less)) =
    let h = dated y m d n e in
    let i = dated z k c p f in
    let months = months_rise y m k less in
    let years = ap days_before_year same in
    let year = ap (λ x. days_before_month x k) same in
    omega (arith, h.some, h.fits, h.number, i.number, months, years, year)
days_rise y m d n z k c p e f (inr (same, inr (month, less))) =
    let h = dated y m d n e in
    let i = dated z k c p f in
    let years = ap days_before_year same in
    let months : days_before_month y m ≡ days_before_month z k = ap (λ x. days_before_month x m) same ∙ ap (days_before_month z) month in
    omega (arith, h.some, h.number, i.number, years, months, less)

-- ---- each day has a date

at_most_or_less : (x y : ℕ) → (x < y) ⊎ (y ≤ x)
at_most_or_less x y = grind arith

year_some : (y : ℕ) → 0 < year_length y
year_some y = some (is_leap y)
  where
    some : (t : Bool) → 0 < cond t 366 365
    some true = omega arith
    some false = omega arith

record HasYear (n : ℕ) : Type 0 where
  year : ℕ
  from : days_before_year year ≤ n
  before : n < days_before_year year + year_length year

next_year : (n : ℕ) → HasYear n → HasYear (suc n)
next_year n h =
    elim (at_most_or_less (suc n) (days_before_year h.year + year_length h.year)) [
      | inl less ↦ record { year = h.year; from = omega (arith, h.from); before = less }
      | inr more ↦ (let some = year_some (suc h.year) in
          record { year = suc h.year; from = omega (arith, more); before = omega (arith, h.before, some) })
    ]

year_of : (n : ℕ) → HasYear n
year_of zero = record { year = 0; from = omega arith; before = omega (arith, year_some 0) }
year_of (suc n) = next_year n (year_of n)

record HasMonth (y k : ℕ) : Type 0 where
  month : ℕ
  from : days_before_month y month ≤ k
  before : k < days_before_month y month + month_length y month

month_of : (y most k : ℕ) → k < days_before_month y most → HasMonth y k
month_of y zero k lt = absurd (omega (arith, lt))
month_of y (suc most) k lt =
    elim (at_most_or_less k (days_before_month y most)) [
      | inl less ↦ month_of y most k less
      | inr more ↦ record { month = most; from = more; before = omega (arith, lt) }
    ]

day_given : (y m d n : ℕ) → 0 < d → d ≤ month_length y m → n ≡ days_before_year y + days_before_month y m + (d - 1) → day_number y m d ≡ Some n
day_given y m d n some fits number =
    let first : nat_lt 0 d ≡ true = grind (arith, common_steps, some) in
    let last : nat_le d (month_length y m) ≡ true = grind (arith, common_steps, fits) in
    let day = days_before_year y + days_before_month y m + (d - 1) in
    ap (λ b. cond (b && nat_le d (month_length y m)) (Some day) None) first ∙ ap (λ b. cond b (Some day) None) last ∙ ap Some (sym number)

pub dates_of_days : (n : ℕ) → (y m d : ℕ) × (day_number y m d ≡ Some n)
dates_of_days n =
    let h = year_of n in
    let k = n - days_before_year h.year in
    let whole = whole_year h.year in
    let i = month_of h.year 13 k (omega (arith, h.from, h.before, whole)) in
    let d = k - days_before_month h.year i.month + 1 in
    (h.year, i.month, d, day_given h.year i.month d n (omega arith) (omega (arith, i.from, i.before)) (omega (arith, h.from, i.from)))
