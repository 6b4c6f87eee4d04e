-- The range of a key of a range.
use Rattle.std.proofs.Common.{◌≡◌, ℕ, zero, suc, List, [], ◌∷◌, ◌++◌, length, take, drop, get_or, ◌<◌, ◌+◌, ◌*◌, ◌/◌, ◌%◌, ◌^◌, nat_le}
use Rattle.std.proofs.Common.{true, cond, Some, None, length-take, length-drop, refl, sym, ap, ◌∙◌, subst, arith}
use lib.ListN.{take-append-drop}
use Rattle.std.proofs.lemmas.Grind.{common_steps}
use Rattle.std.proofs.lemmas.Nat.{pow-add, pow_pos, div-mul-add, be_bytes_4, be_bytes_8}
use Rattle.std.proofs.Math.Nat.{div-div-eq-div-mul, mul-add-div, mul_comm, mul_assoc}
use Rattle.std.proofs.NetLemmas.Arrays.{sixteen_items}
use Rattle.std.specs.Int.{w32, w64, w128, to_be_bytes, from_be_bytes}
use Rattle.std.specs.Net.Addr.{ipv4_bits, ipv6_bits, octets_of, segments_of, IsIpv4Addr, IsIpv6Addr}
use Rattle.std.specs.declared.net.ipv4_addr.Ipv4Addr.{Ipv4Addr}
use Rattle.std.specs.declared.net.ipv6_addr.Ipv6Addr.{Ipv6Addr}
use Rattle.std.specs.declared.net.ip_addr.IpAddr.{IpAddr}
use Rattle.std.specs.declared.net.ip_addr.IpAddr.TheVariants.{V4, V6}
use Rattle.cedar_scalars.specs.declared.ip_ranges.IpRange.{IpRange}
use Rattle.cedar_scalars.specs.Ranges.{version_4, version_6, key_of, range_in, IsProperRange}

-- ---- sixteen bytes are twice eight

high_byte : (hi lo k : ℕ) → lo < 2 ^ 64 → (hi * 2 ^ 64 + lo) / 2 ^ (64 + k) % 2 ^ 8 ≡ hi / 2 ^ k % 2 ^ 8
high_byte hi lo k lt =
    ap (λ w. (hi * 2 ^ 64 + lo) / w % 2 ^ 8) (pow-add 2 64 k)
    ∙ ap (λ q. q % 2 ^ 8) (sym (div-div-eq-div-mul (hi * 2 ^ 64 + lo) (2 ^ 64) (2 ^ k)) ∙ ap (λ q. q / 2 ^ k) (div-mul-add hi (2 ^ 64) lo lt))

whole_bytes : (x q : ℕ) → (2 ^ 8 * x + q) % 2 ^ 8 ≡ q % 2 ^ 8
whole_bytes x q = omega arith

low_byte : (hi lo k j : ℕ) → 64 ≡ k + (8 + j) → (hi * 2 ^ 64 + lo) / 2 ^ k % 2 ^ 8 ≡ lo / 2 ^ k % 2 ^ 8
low_byte hi lo k j e =
    let split : 2 ^ 64 ≡ 2 ^ k * (2 ^ 8 * 2 ^ j) = ap (λ n. 2 ^ n) e ∙ pow-add 2 k (8 + j) ∙ ap (λ w. 2 ^ k * w) (pow-add 2 8 j) in
    let parts : hi * 2 ^ 64 ≡ 2 ^ k * (2 ^ 8 * (2 ^ j * hi)) =
    mul_comm hi (2 ^ 64)
    ∙ ap (λ w. w * hi) split
    ∙ mul_assoc (2 ^ k) (2 ^ 8 * 2 ^ j) hi
    ∙ ap (λ w. 2 ^ k * w) (mul_assoc (2 ^ 8) (2 ^ j) hi) in
    ap (λ w. (w + lo) / 2 ^ k % 2 ^ 8) parts
    ∙ ap (λ q. q % 2 ^ 8) (mul-add-div (pow_pos k) (2 ^ 8 * (2 ^ j * hi)) lo)
    ∙ whole_bytes (2 ^ j * hi) (lo / 2 ^ k)

lowest_byte : (hi lo : ℕ) → (hi * 2 ^ 64 + lo) % 256 ≡ lo % 256
lowest_byte hi lo = omega arith

twice_eight : (hi lo : ℕ) → lo < 2 ^ 64 → to_be_bytes w128 (hi * 2 ^ 64 + lo) ≡ to_be_bytes w64 hi ++ to_be_bytes w64 lo
twice_eight hi lo lt = λ i.
    high_byte hi lo 56 lt i ∷ high_byte hi lo 48 lt i ∷ high_byte hi lo 40 lt i ∷ high_byte hi lo 32 lt i
    ∷ high_byte hi lo 24 lt i ∷ high_byte hi lo 16 lt i ∷ high_byte hi lo 8 lt i ∷ ap (λ q. q % 256) (div-mul-add hi (2 ^ 64) lo lt) i
    ∷ low_byte hi lo 56 0 refl i ∷ low_byte hi lo 48 8 refl i ∷ low_byte hi lo 40 16 refl i ∷ low_byte hi lo 32 24 refl i
    ∷ low_byte hi lo 24 32 refl i ∷ low_byte hi lo 16 40 refl i ∷ low_byte hi lo 8 48 refl i ∷ lowest_byte hi lo i ∷ []

abbrev Small : List ℕ → Type 0
Small xs = (k : ℕ) → get_or xs k 0 < 256

small_take : (n : ℕ) (xs : List ℕ) → Small xs → Small (take n xs)
small_take zero xs h k = omega arith
small_take (suc n) [] h k = omega arith
small_take (suc n) (x ∷ xs) h k =
    let later = small_take n xs (λ j. h (suc j)) in
    elim k as (λ j. get_or (x ∷ take n xs) j 0 < 256) [ zero ↦ h 0 | suc j ↦ later j ]

small_drop : (n : ℕ) (xs : List ℕ) → Small xs → Small (drop n xs)
small_drop zero xs h = h
small_drop (suc n) [] h = h
small_drop (suc n) (x ∷ xs) h = small_drop n xs (λ j. h (suc j))

sum_16 : (a b c d e f g h s t u v w x y z : ℕ) →
    let xs : List ℕ = a ∷ b ∷ c ∷ d ∷ e ∷ f ∷ g ∷ h ∷ s ∷ t ∷ u ∷ v ∷ w ∷ x ∷ y ∷ z ∷ [] in
    from_be_bytes w128 xs ≡ from_be_bytes w64 (take 8 xs) * 2 ^ 64 + from_be_bytes w64 (drop 8 xs)
sum_16 a b c d e f g h s t u v w x y z = omega arith

sum_of_halves : (xs : List ℕ) → length xs ≡ 16 → from_be_bytes w128 xs ≡ from_be_bytes w64 (take 8 xs) * 2 ^ 64 + from_be_bytes w64 (drop 8 xs)
sum_of_halves xs len =
    subst (λ (l : List ℕ). from_be_bytes w128 l ≡ from_be_bytes w64 (take 8 l) * 2 ^ 64 + from_be_bytes w64 (drop 8 l)) (sym (sixteen_items xs len))
    (sum_16 _ _ _ _ _ _ _ _ _ _ _ _ _ _ _ _)

below_64 : (xs : List ℕ) → Small xs → from_be_bytes w64 xs < 2 ^ 64
below_64 xs h = omega (arith, h 0, h 1, h 2, h 3, h 4, h 5, h 6, h 7)

bytes_16 : (xs : List ℕ) → length xs ≡ 16 → Small xs → to_be_bytes w128 (from_be_bytes w128 xs) ≡ xs
bytes_16 xs len small =
    let hi = from_be_bytes w64 (take 8 xs) in
    let lo = from_be_bytes w64 (drop 8 xs) in
    let first : to_be_bytes w64 hi ≡ take 8 xs = be_bytes_8 (take 8 xs) hi (omega (arith, length-take 8 xs, len)) (small_take 8 xs small) refl in
    let last : to_be_bytes w64 lo ≡ drop 8 xs = be_bytes_8 (drop 8 xs) lo (omega (arith, length-drop 8 xs, len)) (small_drop 8 xs small) refl in
    ap (to_be_bytes w128) (sum_of_halves xs len)
    ∙ twice_eight hi lo (below_64 (drop 8 xs) (small_drop 8 xs small))
    ∙ ap (λ l. l ++ to_be_bytes w64 lo) first
    ∙ ap (λ l. take 8 xs ++ l) last
    ∙ take-append-drop 8 xs

-- ---- segments by their octets

octets_small : (segments : List ℕ) → ((k : ℕ) → get_or segments k 0 < 2 ^ 16) → Small (octets_of segments)
octets_small [] h k = omega arith
octets_small (s ∷ rest) h k =
    let first : s < 2 ^ 16 = h 0 in
    let high : s / 256 < 256 = omega (arith, first) in
    let low : s % 256 < 256 = omega arith in
    let later = octets_small rest (λ j. h (suc j)) in
    elim k as (λ j. get_or ((s / 256) ∷ (s % 256) ∷ octets_of rest) j 0 < 256) [
      | zero ↦ high
      | suc j ↦ elim j as (λ m. get_or ((s % 256) ∷ octets_of rest) m 0 < 256) [ zero ↦ low | suc m ↦ later m ]
    ]

octets_count : (segments : List ℕ) → length (octets_of segments) ≡ 2 * length segments
octets_count [] = refl
octets_count (s ∷ rest) = omega (arith, octets_count rest)

segments_back : (segments : List ℕ) → segments_of (octets_of segments) ≡ segments
segments_back [] = refl
segments_back (s ∷ rest) =
    let whole : s / 256 * 256 + s % 256 ≡ s = omega arith in
    λ i. whole i ∷ segments_back rest i

-- ---- both versions

octets_4 : (a : Ipv4Addr) → IsIpv4Addr a → to_be_bytes w32 (ipv4_bits a) ≡ a.octets
unfolding ipv4_bits
octets_4 a h = be_bytes_4 a.octets (from_be_bytes w32 a.octets) h.0 h.1 refl

segments_6 : (a : Ipv6Addr) → IsIpv6Addr a → segments_of (to_be_bytes w128 (ipv6_bits a)) ≡ a.segments
unfolding ipv6_bits
segments_6 a h =
    ap segments_of (bytes_16 (octets_of a.segments) (omega (arith, octets_count a.segments, h.0)) (octets_small a.segments h.1)) ∙ segments_back a.segments

key_read : (a : IpAddr) (p : ℕ) → IsProperRange (record { address = a; prefix = p }) → range_in (key_of (record { address = a; prefix = p })) ≡ Some (record { address = a; prefix = p })
key_read (V4 a) p h =
    let within : nat_le p 32 ≡ true = grind (arith, common_steps, h.1) in
    ap (λ b. cond b (Some (record { address = version_4 (to_be_bytes w32 (ipv4_bits a)); prefix = p })) None) within
    ∙ ap (λ o. Some (record { address = version_4 o; prefix = p })) (octets_4 a h.0)
key_read (V6 a) p h =
    let within : nat_le p 128 ≡ true = grind (arith, common_steps, h.1) in
    ap (λ b. cond b (Some (record { address = version_6 (segments_of (to_be_bytes w128 (ipv6_bits a))); prefix = p })) None) within
    ∙ ap (λ s. Some (record { address = version_6 s; prefix = p })) (segments_6 a h.0)

pub range_key_read : (r : IpRange) → IsProperRange r → range_in (key_of r) ≡ Some r
range_key_read r h = key_read r.address r.prefix h
