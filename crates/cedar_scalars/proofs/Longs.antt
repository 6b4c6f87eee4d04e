-- Integers that are longs, and what checked arithmetic gives.
use Rattle.std.proofs.Common.{◌≡◌, ℕ, ℤ, pos, negsuc, ◌<◌, ◌^◌, nat_lt, Bool, true, false, cond, Option, Some, None, refl, sym, ap, ◌∙◌, arith}
use Rattle.std.specs.Int.RustNames.{FitsSigned}
use Rattle.std.specs.Int.{w64}
use Rattle.std.specs.Option.{SomeIff}
use Rattle.std.proofs.lemmas.Grind.{common_steps}
use Rattle.cedar_scalars.specs.Longs.{is_long, long_of}

pub long_is : (n : ℤ) → is_long n ≡ true → long_of n ≡ Some n
long_is n h = ap (λ b. cond b (Some n) None) h

below : (k : ℕ) → k < 2 ^ 63 → nat_lt k (2 ^ 63) ≡ true
below k h = grind (arith, common_steps)

fits_is : (z : ℤ) → FitsSigned w64 z → is_long z ≡ true
fits_is (pos k) h = below k h.sfits
fits_is (negsuc k) h = below k h.sfits

is_fits : (z : ℤ) → is_long z ≡ true → FitsSigned w64 z
is_fits (pos k) h = record { sfits = grind (arith, common_steps) }
is_fits (negsuc k) h = record { sfits = grind (arith, common_steps) }

none_of : (b : Bool) (z : ℤ) → (b ≡ true → ⊥) → cond b (Some z) None ≡ None
none_of true z bad = absurd (bad refl)
none_of false z bad = refl

pub long_from_checked : (r : Option ℤ) (z : ℤ) → SomeIff r (FitsSigned w64 z) z → r ≡ long_of z
long_from_checked (Some x) z h = let e = fits_is z h.0 in ap Some h.1 ∙ sym (ap (λ b. cond b (Some z) None) e)
long_from_checked None z h = sym (none_of (is_long z) z (λ e. h (is_fits z e)))
