-- Offsets of instants, and their parts.
use Rattle.std.proofs.Common.{◌≡◌, ℕ, ℤ, pos, negsuc, ◌+ℤ◌, ◌-ℤ◌, ◌≤ℤ◌, ◌<ℤ◌, ◌+◌, ◌*◌, ◌/◌, ◌%◌, true, Some}
use Rattle.std.proofs.Common.{refl, sym, ap, ◌∙◌, arith}
use Rattle.std.proofs.lemmas.Int.{ints, int_rem_euclid_is}
use Rattle.std.proofs.lemmas.Option.{cond_some}
use Rattle.cedar_scalars.specs.Longs.{is_long, long_of}
use Rattle.cedar_scalars.proofs.Longs.{long_is}
use Rattle.cedar_scalars.specs.Instants.{offset_by, time_between, time_of_day, midnight_of}

-- the integer, of which `long_of` gives something
given : (z n : ℤ) → long_of z ≡ Some n → (is_long n ≡ true) × (z ≡ n)
given z n e = let parts = cond_some (is_long z) z n e in (ap is_long (sym parts.1) ∙ parts.0, parts.1)

-- ---- offsets

pub offsets_add : (t d e u : ℤ) → offset_by t d ≡ Some u → offset_by u e ≡ offset_by t (d +ℤ e)
offsets_add t d e u h =
    let same = (given (t +ℤ d) u h).1 in
    let sums : u +ℤ e ≡ t +ℤ (d +ℤ e) = omega (arith, ints, same) in
    ap long_of sums

pub offsets_between : (t d u : ℤ) → is_long d ≡ true → offset_by t d ≡ Some u → time_between u t ≡ Some d
offsets_between t d u long h =
    let same = (given (t +ℤ d) u h).1 in
    let back : u -ℤ t ≡ d = omega (arith, ints, same) in
    ap long_of back ∙ long_is d long

-- ---- parts

pub times_of_one_day : (t : ℤ) → (pos 0 ≤ℤ time_of_day t) × (time_of_day t <ℤ pos 86400000)
times_of_one_day (pos a) = (omega (arith, ints), omega (arith, ints))
times_of_one_day (negsuc a) = (omega (arith, ints), omega (arith, ints))

pub parts_of_instants : (t d : ℤ) → midnight_of t ≡ Some d → d +ℤ time_of_day t ≡ t
parts_of_instants t d h = let same = (given (t -ℤ time_of_day t) d h).1 in omega (arith, ints, same)

-- an integer that is some days and no more has no time of day
whole_days : (z : ℤ) (k m : ℕ) → z +ℤ pos (k * 86400000) ≡ pos (m * 86400000) → time_of_day z ≡ pos 0
whole_days z k m e =
    let none : m * 86400000 % 86400000 ≡ 0 = omega arith in
    int_rem_euclid_is z (pos 86400000) 86400000 k (m * 86400000) (omega arith) refl e ∙ ap pos none

no_time : (t : ℤ) → time_of_day (t -ℤ time_of_day t) ≡ pos 0
no_time (pos a) = whole_days (pos a -ℤ time_of_day (pos a)) 0 (a / 86400000) (omega (arith, ints))
no_time (negsuc a) = whole_days (negsuc a -ℤ time_of_day (negsuc a)) (a / 86400000 + 1) 0 (omega (arith, ints))

pub midnights : (t d : ℤ) → midnight_of t ≡ Some d → midnight_of d ≡ Some d
midnights t d h =
    let is = given (t -ℤ time_of_day t) d h in
    let none : time_of_day d ≡ pos 0 = ap time_of_day (sym is.1) ∙ no_time t in
    let itself : d -ℤ time_of_day d ≡ d = omega (arith, ints, none) in
    ap long_of itself ∙ long_is d is.0
