-- What is written of a range is read back.
use Rattle.std.proofs.Common.{◌≡◌, ℕ, zero, suc, List, [], ◌∷◌, ◌++◌, length, take, drop, take_at, drop_at, ◌<◌, ◌≤◌, ◌+◌, ◌^◌, ◌==◌, ◌&&◌, ◌||◌}
use Rattle.std.proofs.Common.{nat_le, nat_lt, not, Bool, true, false, cond, Some, None, option_map, All, slice_index, inl, inr, refl, sym, ap, ◌∙◌, arith}
use Rattle.std.proofs.lemmas.Grind.{common_steps}
use Rattle.std.proofs.lemmas.List.Elements.{All-head, All-tail}
use Rattle.std.proofs.lemmas.Fmt.{decimal_digit, digits_decimal, digits_value-decimal, decimal_nonempty, first_decimal}
use Rattle.std.proofs.NetLemmas.Texts.{IsDotted-ipv4_text, IsColonHex-hex_groups_text}
use Rattle.std.proofs.NetLemmas.Alphabet.{IsDigitOrDot, IsHexOrColon, All-ipv4_text, All-hex_groups_text}
use Rattle.std.specs.Fmt.{decimal}
use Rattle.std.specs.Net.Addr.{IsIpv4Addr, IsIpv6Addr, MatchIp}
use Rattle.std.specs.Net.Text.{ipv4_text, hex_groups_text}
use Rattle.std.specs.declared.net.ip_addr.IpAddr.{IpAddr}
use Rattle.std.specs.declared.net.ip_addr.IpAddr.TheVariants.{V4, V6}
use Rattle.cedar_scalars.specs.declared.ip_ranges.IpRange.{IpRange}
use Rattle.cedar_scalars.specs.Digits.{number}
use Rattle.cedar_scalars.specs.Ranges.{width, has_point, address_of, is_numeral, prefix_of, range_behind, slash_place, range_of}
use Rattle.cedar_scalars.specs.Ranges.{address_text, range_text, IsProperRange}
use Rattle.cedar_scalars.proofs.Addresses.{address_given}
use Rattle.cedar_scalars.proofs.Printing.{digit_model}
use Rattle.cedar_scalars.proofs.RangeKeys.{width_small}

-- ---- an address has no slash, and one of version 6 no point

slash_behind : (xs rest : List ℕ) → All (λ b. (b == 47) ≡ false) xs → slash_place (xs ++ 47 ∷ rest) ≡ length xs
slash_behind [] rest h = refl
slash_behind (x ∷ xs) rest h =
    let q = slash_behind xs rest (All-tail (λ b. (b == 47) ≡ false) x xs h) in
    ap (λ b. cond (not b) (1 + slash_place (xs ++ 47 ∷ rest)) 0) (All-head (λ b. (b == 47) ≡ false) x xs h) ∙ omega (arith, q)

no_slash_4 : (c : ℕ) → IsDigitOrDot c → (c == 47) ≡ false
no_slash_4 c (inl h) = grind (arith, common_steps, h.0)
no_slash_4 c (inr e) = grind (arith, common_steps, e)

no_slash_6 : (c : ℕ) → IsHexOrColon c → (c == 47) ≡ false
no_slash_6 c (inl h) = grind (arith, common_steps, h.0)
no_slash_6 c (inr h) = grind (arith, common_steps, h.0)

no_point_6 : (c : ℕ) → IsHexOrColon c → (c == 46) ≡ false
no_point_6 c (inl h) = grind (arith, common_steps, h.0)
no_point_6 c (inr h) = grind (arith, common_steps, h.0)

pointless : (xs : List ℕ) → All (λ b. (b == 46) ≡ false) xs → has_point xs ≡ false
pointless [] h = refl
pointless (x ∷ xs) h =
    ap (λ b. b || has_point xs) (All-head (λ b. (b == 46) ≡ false) x xs h) ∙ pointless xs (All-tail (λ b. (b == 46) ≡ false) x xs h)

slashless : (a : IpAddr) → MatchIp a IsIpv4Addr IsIpv6Addr → All (λ b. (b == 47) ≡ false) (address_text a)
slashless (V4 a) h = λ k d lt. no_slash_4 _ (All-ipv4_text a.octets h.1 k d lt)
slashless (V6 a) h = λ k d lt. no_slash_6 _ (All-hex_groups_text a.segments h.1 k d lt)

address_back : (a : IpAddr) → MatchIp a IsIpv4Addr IsIpv6Addr → address_of (address_text a) ≡ Some a
address_back (V4 a) h = sym (address_given (ipv4_text a.octets) (V4 a) (IsDotted-ipv4_text a.octets h.0 h.1))
address_back (V6 a) h =
    let text = hex_groups_text a.segments in
    let none : has_point text ≡ false = pointless text (λ k d lt. no_point_6 _ (All-hex_groups_text a.segments h.1 k d lt)) in
    sym (address_given text (V6 a) (IsColonHex-hex_groups_text a.segments h.0 h.1)) ∙ ap (λ b. cond b None (Some (V6 a))) none

-- ---- the prefix

or_true : (a b : Bool) → b ≡ true → (a || b) ≡ true
or_true true b e = refl
or_true false b e = e

numeral : (p : ℕ) → p < 2 ^ 64 → is_numeral (decimal p) ≡ true
numeral zero fits = ap is_numeral (decimal_digit 0 (omega arith))
numeral (suc p) fits =
    let ds = decimal (suc p) in
    let some : nat_lt 0 (length ds) ≡ true = grind (arith, common_steps, decimal_nonempty (suc p) fits) in
    let first : (slice_index ds 0 == 48) ≡ false = grind (arith, common_steps, first_decimal (suc p) (omega arith) fits) in
    ap (λ b. b && (nat_lt 0 (length ds) && (length ds == 1 || not (slice_index ds 0 == 48)))) (digits_decimal digit_model (suc p) fits)
    ∙ ap (λ b. b && (length ds == 1 || not (slice_index ds 0 == 48))) some
    ∙ or_true (length ds == 1) (not (slice_index ds 0 == 48)) (ap not first)

prefix_back : (most p : ℕ) → p ≤ most → most ≤ 128 → prefix_of most (decimal p) ≡ Some p
prefix_back most p le small =
    let fits : p < 2 ^ 64 = omega (arith, le, small) in
    let within : nat_le p most ≡ true = grind (arith, common_steps, le) in
    ap (λ b. cond (b && nat_le (number (decimal p)) most) (Some (number (decimal p))) None) (numeral p fits)
    ∙ ap (λ n. cond (nat_le n most) (Some n) None) (digits_value-decimal digit_model p fits)
    ∙ ap (λ b. cond b (Some p) None) within

-- ---- the range

pub range_back : (r : IpRange) → IsProperRange r → range_of (range_text r) ≡ Some r
range_back r h =
    let front = address_text r.address in
    let rest = 47 ∷ decimal r.prefix in
    let text = front ++ rest in
    let place : slash_place text ≡ length front = slash_behind front (decimal r.prefix) (slashless r.address h.0) in
    let before : take (slash_place text) text ≡ front = ap (λ k. take k text) place ∙ take_at front rest (length front) refl in
    let behind : drop (slash_place text) text ≡ rest = ap (λ k. drop k text) place ∙ drop_at front rest (length front) refl in
    ap (λ t. range_behind t (address_of (take (slash_place text) text))) behind
    ∙ ap (λ t. range_behind rest (address_of t)) before
    ∙ ap (range_behind rest) (address_back r.address h.0)
    ∙ ap (option_map (λ n. record { address = r.address; prefix = n })) (prefix_back (width r.address) r.prefix h.1 (width_small r.address))
