-- Keys of ranges are bytes.
use Rattle.std.proofs.Common.{◌≡◌, ℕ, List, [], ◌∷◌, ◌++◌, ◌<◌, ◌≤◌, ◌&&◌, nat_le, take, drop, refl, ap, Option, Some, None, arith}
use Rattle.std.proofs.lemmas.Grind.{common_steps}
use Rattle.std.proofs.lemmas.Option.{none-some, cond_some, same_Some}
use Rattle.std.specs.List.{AllByRecursion}
use Rattle.std.specs.Option.{option_map}
use Rattle.std.specs.declared.net.ip_addr.IpAddr.{IpAddr}
use Rattle.std.specs.declared.net.ip_addr.IpAddr.TheVariants.{V4, V6}
use Rattle.cedar_scalars.specs.declared.ip_ranges.IpRange.{IpRange}
use Rattle.cedar_scalars.specs.Digits.{number}
use Rattle.cedar_scalars.specs.Ranges.{width, is_numeral, prefix_behind, range_behind, range_of, address_of, slash_place, address_key, key_of}
use Rattle.cedar_scalars.proofs.Spelling.{and_parts}

pub width_small : (a : IpAddr) → width a ≤ 128
width_small (V4 a) = omega arith
width_small (V6 a) = omega arith

pub prefix_small : (most : ℕ) (rest : List ℕ) (n : ℕ) → prefix_behind most rest ≡ Some n → n ≤ most
prefix_small most [] n e = let same = same_Some most n e in omega (arith, same)
prefix_small most (b ∷ digits) n e =
    let given = cond_some (is_numeral digits && nat_le (number digits) most) (number digits) n e in
    let parts = and_parts (is_numeral digits) (nat_le (number digits) most) given.0 in
    grind (arith, common_steps, parts.1, given.1)

range_small : (rest : List ℕ) (o : Option IpAddr) (r : IpRange) → range_behind rest o ≡ Some r → r.prefix ≤ 128
range_small rest None r e = absurd (none-some r e)
range_small rest (Some a) r e = by (prefix_behind (width a) rest) refl e
  where
    by : (p : Option ℕ) → prefix_behind (width a) rest ≡ p → option_map (λ n. record { address = a; prefix = n }) p ≡ Some r → r.prefix ≤ 128
    by None q e = absurd (none-some r e)
    by (Some n) q e =
        let same : n ≡ r.prefix = ap (λ x. x.prefix) (same_Some _ _ e) in
        let small = prefix_small (width a) rest n q in
        let most = width_small a in
        omega (arith, same, small, most)

behind_bytes : (a : IpAddr) (p : ℕ) → p < 256 → AllByRecursion (λ b. b < 256) (address_key a ++ p ∷ [])
behind_bytes (V4 a) p lt = (omega arith, (omega arith, (omega arith, (omega arith, (omega arith, (lt, tt))))))
behind_bytes (V6 a) p lt = (omega arith, (omega arith, (omega arith, (omega arith, (omega arith, (omega arith, (omega arith, (omega arith, (omega arith, (omega arith, (omega arith, (omega arith, (omega arith, (omega arith, (omega arith, (omega arith, (omega arith, (lt, tt))))))))))))))))))

pub key_is_bytes : (text : List ℕ) (r : IpRange) → range_of text ≡ Some r → AllByRecursion (λ b. b < 256) (key_of r)
key_is_bytes text r e =
    let small = range_small (drop (slash_place text) text) (address_of (take (slash_place text) text)) r e in
    behind_bytes r.address r.prefix (omega (arith, small))
