-- Bits that two numbers share.
use Rattle.std.proofs.Common.{◌≡◌, refl, ap, sym, ◌∙◌, Bool, false, not, ◌||◌, ℕ, zero, suc, ◌≤◌, ◌==◌, bit_and, bit_or, min, max, arith}
use Rattle.std.specs.Int.{bit_at}
use Rattle.std.specs.Int.Bits.{or_zero_l}
use Rattle.std.proofs.lemmas.Nat.{le_or_l}
use Rattle.std.proofs.lemmas.Nat.Bits.{bit_at_and, bit_at_or, same_from_bits}

lattice : (x y z : ℕ) → min (max x y) z ≡ max (min x z) (min y z)
lattice x y z = grind arith

-- `(a | b) & k` is `a & k | b & k`
and_or_spread : (a b k : ℕ) → bit_and (bit_or a b) k ≡ bit_or (bit_and a k) (bit_and b k)
and_or_spread a b k =
    same_from_bits _ _ (λ i.
    bit_at_and (bit_or a b) k i
    ∙ ap (λ n. min n (bit_at k i)) (bit_at_or a b i)
    ∙ lattice (bit_at a i) (bit_at b i) (bit_at k i)
    ∙ sym (ap (λ n. max n (bit_at (bit_and b k) i)) (bit_at_and a k i) ∙ ap (max (min (bit_at a i) (bit_at k i))) (bit_at_and b k i))
    ∙ sym (bit_at_or (bit_and a k) (bit_and b k) i))

at_least : (m n : ℕ) → suc m ≤ n → (n == 0) ≡ false
at_least m n h = grind (arith, h)

some_bit : (x y : ℕ) → not (bit_or x y == 0) ≡ (not (x == 0) || not (y == 0))
some_bit zero y = ap (λ n. not (n == 0)) (or_zero_l y)
some_bit (suc x) y =
    ap not (at_least x (bit_or (suc x) y) (le_or_l (suc x) y))
    ∙ sym (ap (λ b. not b || not (y == 0)) (at_least x (suc x) (grind arith)))

pub meets_either : (a b k : ℕ) → not (bit_and (bit_or a b) k == 0) ≡ (not (bit_and a k == 0) || not (bit_and b k == 0))
meets_either a b k = ap (λ n. not (n == 0)) (and_or_spread a b k) ∙ some_bit (bit_and a k) (bit_and b k)
