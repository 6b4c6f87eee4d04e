-- Ranges of texts have addresses as std's types have them, and no more bits.
use Rattle.std.proofs.Common.{◌≡◌, ℕ, zero, suc, List, [], ◌∷◌, ◌++◌, length, get_or, replicate, ◌<◌, ◌≤◌, ◌+◌, ◌-◌, ◌*◌, ◌^◌, inl, inr}
use Rattle.std.proofs.Common.{Bool, true, false, cond, Option, Some, None, option_map, take, drop, refl, sym, ap, ◌∙◌, subst, arith, length-append, ne_eqb}
use Rattle.std.proofs.lemmas.List.{length-replicate}
use Rattle.std.proofs.lemmas.Int.Digits.{digits_value-lt}
use Rattle.std.proofs.lemmas.Option.{none-some, same_Some}
use Rattle.std.specs.Net.Addr.{segments_of, IsIpv4Addr, IsIpv6Addr, MatchIp}
use Rattle.std.specs.Net.Grammar.{IsDotted, IsGroup, IsGroupsAfter, IsElided, IsColonHex}
use Rattle.std.specs.Net.Reader.{Read, read_ipv4, read_ipv6, whole_value}
use Rattle.std.specs.declared.net.ip_addr.IpAddr.{IpAddr}
use Rattle.cedar_scalars.specs.declared.ip_ranges.IpRange.{IpRange}
use Rattle.cedar_scalars.specs.Ranges.{version_4, version_6, width, has_point, or_version_6, address_of, prefix_behind, range_behind, slash_place, range_of, IsProperRange}
use Rattle.cedar_scalars.proofs.Addresses.{four_spelled, six_spelled}
use Rattle.cedar_scalars.proofs.RangeKeys.{prefix_small}

-- ---- four octets

four_small : (a b c d : ℕ) → a < 256 → b < 256 → c < 256 → d < 256 → (k : ℕ) → get_or (a ∷ b ∷ c ∷ d ∷ []) k 0 < 2 ^ 8
four_small a b c d p q r s zero = p
four_small a b c d p q r s (suc zero) = q
four_small a b c d p q r s (suc (suc zero)) = r
four_small a b c d p q r s (suc (suc (suc zero))) = s
four_small a b c d p q r s (suc (suc (suc (suc k)))) = omega arith

dotted_small : (text octets : List ℕ) → IsDotted text octets → (length octets ≡ 4) × ((k : ℕ) → get_or octets k 0 < 2 ^ 8)
dotted_small text octets h =
    subst (λ (xs : List ℕ). (length xs ≡ 4) × ((k : ℕ) → get_or xs k 0 < 2 ^ 8)) (sym h.value)
    (refl, four_small h.a h.b h.c h.d h.fit.0 h.fit.1 h.fit.2 h.fit.3)

-- ---- eight segments

abbrev Small : List ℕ → Type 0
Small xs = (k : ℕ) → get_or xs k 0 < 2 ^ 16

small_first : (s : ℕ) (xs : List ℕ) → s < 2 ^ 16 → Small xs → Small (s ∷ xs)
small_first s xs lt h zero = lt
small_first s xs lt h (suc k) = h k

small_none : Small []
small_none k = omega arith

small_both : (xs ys : List ℕ) → Small xs → Small ys → Small (xs ++ ys)
small_both [] ys h i = i
small_both (x ∷ xs) ys h i = small_first x (xs ++ ys) (h 0) (small_both xs ys (λ k. h (suc k)) i)

small_zeros : (n : ℕ) → Small (replicate n 0)
small_zeros zero = small_none
small_zeros (suc n) = small_first 0 (replicate n 0) (omega arith) (small_zeros n)

powers : (k : ℕ) → k ≤ 4 → 16 ^ k ≤ 2 ^ 16
powers zero le = omega arith
powers (suc zero) le = omega arith
powers (suc (suc zero)) le = omega arith
powers (suc (suc (suc zero))) le = omega arith
powers (suc (suc (suc (suc zero)))) le = omega arith
powers (suc (suc (suc (suc (suc k))))) le = absurd (omega (arith, le))

group_small : (text : List ℕ) (s : ℕ) → IsGroup text s → s < 2 ^ 16
group_small text s h =
    let below = digits_value-lt 16 text h.0.0.1 in
    let most = powers (length text) h.1 in
    omega (arith, below, most, h.0.1)

pair_small : (a b : ℕ) → a < 256 → b < 256 → a * 256 + b < 2 ^ 16
pair_small a b p q = omega (arith, p, q)

octets_paired : (text octets : List ℕ) → IsDotted text octets → Small (segments_of octets)
octets_paired text octets h =
    subst (λ (xs : List ℕ). Small (segments_of xs)) (sym h.value)
    (small_first (h.a * 256 + h.b) ((h.c * 256 + h.d) ∷ []) (pair_small h.a h.b h.fit.0 h.fit.1)
    (small_first (h.c * 256 + h.d) [] (pair_small h.c h.d h.fit.2 h.fit.3) small_none))

groups_small : (ipv4 : Bool) (lead text segments : List ℕ) → IsGroupsAfter ipv4 lead text segments → Small segments
groups_small ipv4 lead text [] h = small_none
groups_small ipv4 lead text (s ∷ segments) (inl h) = small_first s segments (group_small h.0 s h.3) (groups_small ipv4 _ h.1 segments h.4)
groups_small ipv4 lead text (s ∷ segments) (inr h) = subst Small (sym h.5) (octets_paired h.0 h.1 h.4)

elided_proper : (text segments : List ℕ) → IsElided text segments → (length segments ≡ 8) × Small segments
elided_proper text segments h =
    let zeros = replicate (8 - length h.head - length h.tail) 0 in
    subst (λ (xs : List ℕ). (length xs ≡ 8) × Small xs) (sym h.value) (
      omega (arith, h.room, length-append (h.head ++ zeros) h.tail, length-append h.head zeros, length-replicate {A = ℕ} (8 - length h.head - length h.tail) 0),
      small_both (h.head ++ zeros) h.tail (small_both h.head zeros (groups_small false _ h.head_text h.head h.head_groups) (small_zeros _))
          (groups_small true _ h.tail_text h.tail h.tail_groups),
    )

colon_proper : (text segments : List ℕ) → IsColonHex text segments → (length segments ≡ 8) × Small segments
colon_proper text segments (inl h) = (h.1, groups_small true _ text segments h.0)
colon_proper text segments (inr h) = elided_proper text segments h

-- ---- addresses and ranges of texts

whole_is : {A : Type 0} (r : Read A) (a : A) → whole_value r ≡ Some a → r ≡ Some (a, [])
whole_is None a e = absurd (none-some a e)
whole_is (Some (b, [])) a e = ap (λ x. Some (x, [])) (same_Some b a e)
whole_is (Some (b, x ∷ xs)) a e = absurd (none-some a (sym (ap (λ t. cond t (Some b) None) (ne_eqb (length (x ∷ xs)) 0 (omega arith))) ∙ e))

address_proper : (text : List ℕ) (four : Option (List ℕ)) (six : Option (List ℕ)) (a : IpAddr) → whole_value (read_ipv4 text) ≡ four → whole_value (read_ipv6 text) ≡ six →
    or_version_6 text four ≡ Some a → MatchIp a IsIpv4Addr IsIpv6Addr
address_proper text (Some octets) six a p q e =
    subst (λ x. MatchIp x IsIpv4Addr IsIpv6Addr) (same_Some (version_4 octets) a e)
    (dotted_small text octets (four_spelled text octets (whole_is (read_ipv4 text) octets p)))
address_proper text None six a p q e = by (has_point text) six q (ap (λ o. cond (has_point text) None (option_map version_6 o)) (sym q) ∙ e)
  where
    by : (t : Bool) (o : Option (List ℕ)) → whole_value (read_ipv6 text) ≡ o → cond t None (option_map version_6 o) ≡ Some a → MatchIp a IsIpv4Addr IsIpv6Addr
    by true o q e = absurd (none-some a e)
    by false None q e = absurd (none-some a e)
    by false (Some segments) q e =
        subst (λ x. MatchIp x IsIpv4Addr IsIpv6Addr) (same_Some (version_6 segments) a e)
        (colon_proper text segments (six_spelled text segments (whole_is (read_ipv6 text) segments q)))

range_proper : (rest text : List ℕ) (o : Option IpAddr) (r : IpRange) → address_of text ≡ o → range_behind rest o ≡ Some r → IsProperRange r
range_proper rest text None r p e = absurd (none-some r e)
range_proper rest text (Some a) r p e = by (prefix_behind (width a) rest) refl e
  where
    by : (q : Option ℕ) → prefix_behind (width a) rest ≡ q → option_map (λ n. record { address = a; prefix = n }) q ≡ Some r → IsProperRange r
    by None q e = absurd (none-some r e)
    by (Some n) q e =
        subst IsProperRange (same_Some _ _ e) (address_proper text (whole_value (read_ipv4 text)) (whole_value (read_ipv6 text)) a refl refl p, prefix_small (width a) rest n q)

pub texts_are_proper : (text : List ℕ) (r : IpRange) → range_of text ≡ Some r → IsProperRange r
texts_are_proper text r e =
    range_proper (drop (slash_place text) text) (take (slash_place text) text) (address_of (take (slash_place text) text)) r refl e
