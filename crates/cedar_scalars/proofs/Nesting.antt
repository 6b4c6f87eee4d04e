-- Ranges within ranges, and their addresses.
use Rattle.std.proofs.Common.{◌≡◌, ◌↔◌, ℕ, ◌≤◌, ◌<◌, ◌⊎◌, inl, inr, ◌+◌, ◌-◌, ◌*◌, ◌/◌, ◌^◌, ◌==◌, ◌&&◌, nat_le, Bool, true, refl, sym, ap, ◌∙◌, arith}
use Rattle.std.proofs.lemmas.Grind.{common_steps}
use Rattle.std.proofs.lemmas.Nat.{pow-add, pow_pos, div-mul-add}
use Rattle.std.proofs.Math.Nat.{div-div-eq-div-mul, add-div_right}
use Rattle.std.proofs.Math.Pow.{pow-lt}
use Rattle.cedar_scalars.specs.declared.ip_ranges.IpRange.{IpRange}
use Rattle.cedar_scalars.specs.Ranges.{width, bits, network, is_in_range, HasAddress}
use Rattle.cedar_scalars.proofs.Spelling.{and_parts}

equal_is : (x y : ℕ) → x ≡ y → (x == y) ≡ true
equal_is x y e = grind (arith, common_steps, e)

is_equal : (x y : ℕ) → (x == y) ≡ true → x ≡ y
is_equal x y e = grind (arith, common_steps, e)

at_most_is : (x y : ℕ) → x ≤ y → nat_le x y ≡ true
at_most_is x y le = grind (arith, common_steps, le)

is_at_most : (x y : ℕ) → nat_le x y ≡ true → x ≤ y
is_at_most x y e = grind (arith, common_steps, e)

all_three : (x y z : Bool) → x ≡ true → y ≡ true → z ≡ true → (x && (y && z)) ≡ true
all_three x y z p q r = ap (λ b. b && (y && z)) p ∙ ap (λ b. b && z) q ∙ r

pub within_itself : (a : IpRange) → is_in_range a a ≡ true
within_itself a =
    let n = network a.address a.prefix in
    all_three (width a.address == width a.address) (nat_le a.prefix a.prefix) (n == n)
    (equal_is (width a.address) (width a.address) refl) (at_most_is a.prefix a.prefix (omega arith)) (equal_is n n refl)

-- numbers alike without some bits are alike without more
coarser : (m n i j : ℕ) → i ≤ j → m / 2 ^ i ≡ n / 2 ^ i → m / 2 ^ j ≡ n / 2 ^ j
coarser m n i j le e =
    let sum : j ≡ i + (j - i) = omega (arith, le) in
    let split : 2 ^ j ≡ 2 ^ i * 2 ^ (j - i) = ap (λ k. 2 ^ k) sum ∙ pow-add 2 i (j - i) in
    ap (λ w. m / w) split
    ∙ sym (div-div-eq-div-mul m (2 ^ i) (2 ^ (j - i)))
    ∙ ap (λ q. q / 2 ^ (j - i)) e
    ∙ div-div-eq-div-mul n (2 ^ i) (2 ^ (j - i))
    ∙ ap (λ w. n / w) (sym split)

-- what it is to be within
record Within (a b : IpRange) : Type 0 where
  version : width a.address ≡ width b.address
  prefix : b.prefix ≤ a.prefix
  alike : network a.address b.prefix ≡ network b.address b.prefix

within : (a b : IpRange) → is_in_range a b ≡ true → Within a b
within a b e =
    let p = network a.address b.prefix in
    let q = network b.address b.prefix in
    let first = and_parts (width a.address == width b.address) (nat_le b.prefix a.prefix && p == q) e in
    let rest = and_parts (nat_le b.prefix a.prefix) (p == q) first.1 in
    record {
      version = is_equal (width a.address) (width b.address) first.0;
      prefix = is_at_most b.prefix a.prefix rest.0;
      alike = is_equal p q rest.1;
    }

pub nested : (a b c : IpRange) → is_in_range a b ≡ true → is_in_range b c ≡ true → is_in_range a c ≡ true
nested a b c ab bc =
    let h = within a b ab in
    let k = within b c bc in
    let w = width a.address in
    let same : bits a.address / 2 ^ (w - b.prefix) ≡ bits b.address / 2 ^ (w - b.prefix) =
    h.alike ∙ ap (λ v. bits b.address / 2 ^ (v - b.prefix)) (sym h.version) in
    let less : w - b.prefix ≤ w - c.prefix = omega (arith, k.prefix) in
    let alike : network a.address c.prefix ≡ network c.address c.prefix =
    coarser (bits a.address) (bits b.address) (w - b.prefix) (w - c.prefix) less same
    ∙ ap (λ v. bits b.address / 2 ^ (v - c.prefix)) h.version
    ∙ k.alike in
    all_three (width a.address == width c.address) (nat_le c.prefix a.prefix) (network a.address c.prefix == network c.address c.prefix)
    (equal_is (width a.address) (width c.address) (h.version ∙ k.version))
    (at_most_is c.prefix a.prefix (omega (arith, h.prefix, k.prefix)))
    (equal_is (network a.address c.prefix) (network c.address c.prefix) alike)

-- ---- a range is its addresses

at_most_or_more : (x y : ℕ) → (x ≤ y) ⊎ (y < x)
at_most_or_more x y = grind arith

-- a range of fewer bits has an address that one of more bits doesn't have
never_fewer : (a b : IpRange) → width a.address ≡ width b.address → b.prefix ≤ width b.address → a.prefix < b.prefix →
    ((n : ℕ) → HasAddress a n → HasAddress b n) → ⊥
never_fewer a b version proper fewer all =
    let k = width a.address - a.prefix in
    let j = width b.address - b.prefix in
    let less : j < k = omega (arith, version, proper, fewer) in
    let part = bits a.address / 2 ^ k in
    let low = part * 2 ^ k in
    let first : low / 2 ^ k ≡ part = ap (λ m. m / 2 ^ k) (omega arith) ∙ div-mul-add part (2 ^ k) 0 (pow_pos k) in
    let next : (low + 2 ^ j) / 2 ^ k ≡ part = div-mul-add part (2 ^ k) (2 ^ j) (pow-lt less) in
    let same : (low + 2 ^ j) / 2 ^ j ≡ low / 2 ^ j = all (low + 2 ^ j) next ∙ sym (all low first) in
    let more : (low + 2 ^ j) / 2 ^ j ≡ low / 2 ^ j + 1 = add-div_right low (pow_pos j) in
    absurd (omega (arith, same, more))

all_within : (a b : IpRange) → is_in_range a b ≡ true → (n : ℕ) → HasAddress a n → HasAddress b n
all_within a b e n has =
    let h = within a b e in
    let w = width a.address in
    let less : w - a.prefix ≤ w - b.prefix = omega (arith, h.prefix) in
    ap (λ v. n / 2 ^ (v - b.prefix)) (sym h.version)
    ∙ coarser n (bits a.address) (w - a.prefix) (w - b.prefix) less has
    ∙ h.alike

within_all : (a b : IpRange) → width a.address ≡ width b.address → b.prefix ≤ width b.address → ((n : ℕ) → HasAddress a n → HasAddress b n) →
    is_in_range a b ≡ true
within_all a b version proper all =
    let alike : network a.address b.prefix ≡ network b.address b.prefix =
    ap (λ v. bits a.address / 2 ^ (v - b.prefix)) version ∙ all (bits a.address) refl in
    elim (at_most_or_more b.prefix a.prefix) [
      | inl less ↦
          all_three (width a.address == width b.address) (nat_le b.prefix a.prefix) (network a.address b.prefix == network b.address b.prefix)
          (equal_is (width a.address) (width b.address) version) (at_most_is b.prefix a.prefix less)
          (equal_is (network a.address b.prefix) (network b.address b.prefix) alike)
      | inr fewer ↦ absurd (never_fewer a b version proper fewer all)
    ]

pub their_addresses : (a b : IpRange) → width a.address ≡ width b.address → b.prefix ≤ width b.address →
    (is_in_range a b ≡ true) ↔ ((n : ℕ) → HasAddress a n → HasAddress b n)
their_addresses a b version proper = (all_within a b, within_all a b version proper)
