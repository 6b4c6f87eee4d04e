-- Ranges of IP addresses: an address, and how many of its first bits the addresses of the range share.
-- (Cedar language reference, "ipaddr".)
use Rattle.std.specs.Prelude.{◌≡◌, ◌≤◌, ℕ, ◌+◌, ◌-◌, ◌/◌, ◌^◌, Bool, not, cond, ◌==◌, ◌&&◌, ◌||◌, nat_lt, nat_le, List, [], ◌∷◌, ◌++◌}
use Rattle.std.specs.Prelude.{length, take, drop, slice_index, codes, Option, Some, None}
use Rattle.std.specs.Fmt.{decimal}
use Rattle.std.specs.Int.{w32, w128, to_be_bytes}
use Rattle.std.specs.List.{position_or_len, list_any}
use Rattle.std.specs.Option.{option_map}
use Rattle.std.specs.Str.{all_ascii_digits}
use Rattle.std.specs.Net.Addr.{ipv4_bits, ipv6_bits, ipv4_octets, ipv6_segments, segments_of, IsIpv4Addr, IsIpv6Addr, MatchIp}
use Rattle.std.specs.Net.Reader.{read_ipv4, read_ipv6, whole_value}
use Rattle.std.specs.Net.Text.{ipv4_text, hex_groups_text}
use Rattle.std.specs.declared.net.ip_addr.IpAddr.{IpAddr}
use Rattle.std.specs.declared.net.ip_addr.IpAddr.TheVariants.{V4, V6}
use Rattle.cedar_scalars.specs.declared.ip_ranges.IpRange.{IpRange}
use Rattle.cedar_scalars.specs.Digits.{number}

abbrev pub version_4 : List ℕ → IpAddr
version_4 octets = V4 (record { octets = octets })

abbrev pub version_6 : List ℕ → IpAddr
version_6 segments = V6 (record { segments = segments })

-- how many bits an address has, and the number that they are
abbrev pub width : IpAddr → ℕ
width (V4 a) = 32
width (V6 a) = 128

abbrev pub bits : IpAddr → ℕ
bits (V4 a) = ipv4_bits a
bits (V6 a) = ipv6_bits a

-- ---- texts

-- whether a point stands in it
abbrev pub has_point : List ℕ → Bool
has_point text = list_any (λ b. b == 46) text

-- the address of version 4, or else one of version 6 without a point
abbrev pub or_version_6 : List ℕ → Option (List ℕ) → Option IpAddr
or_version_6 text (Some octets) = Some (version_4 octets)
or_version_6 text None = cond (has_point text) None (option_map version_6 (whole_value (read_ipv6 text)))

-- an address, unless it is of version 6 and its text has a point
abbrev pub unless_pointed : List ℕ → IpAddr → Option IpAddr
unless_pointed text (V4 a) = Some (V4 a)
unless_pointed text (V6 a) = cond (has_point text) None (Some (V6 a))

-- the address of a text: four numbers with points, or groups with colons (RFC 4291, 2.2) and no point
abbrev pub address_of : List ℕ → Option IpAddr
address_of text = or_version_6 text (whole_value (read_ipv4 text))

-- digits, at least one, and no zero before others
abbrev pub is_numeral : List ℕ → Bool
is_numeral digits = all_ascii_digits digits && (nat_lt 0 (length digits) && (length digits == 1 || not (slice_index digits 0 == 48)))

-- the prefix of at most so many bits
abbrev pub prefix_of : ℕ → List ℕ → Option ℕ
prefix_of most digits = cond (is_numeral digits && nat_le (number digits) most) (Some (number digits)) None

-- what stands behind an address of so many bits: a slash and the prefix, or nothing, which is all bits
abbrev pub prefix_behind : ℕ → List ℕ → Option ℕ
prefix_behind most [] = Some most
prefix_behind most (b ∷ digits) = prefix_of most digits

-- the range of an address, and of what stands behind it
abbrev pub range_behind : List ℕ → Option IpAddr → Option IpRange
range_behind rest None = None
range_behind rest (Some a) = option_map (λ n. record { address = a; prefix = n }) (prefix_behind (width a) rest)

-- where the first slash stands, or the end
abbrev pub slash_place : List ℕ → ℕ
slash_place text = position_or_len (λ b. b == 47) text

-- the range of a text, where it is one
abbrev pub range_of : List ℕ → Option IpRange
range_of text = range_behind (drop (slash_place text) text) (address_of (take (slash_place text) text))

-- how a range is written: an address of version 6 in hexadecimal groups alone, and the prefix in any case
abbrev pub address_text : IpAddr → List ℕ
address_text (V4 a) = ipv4_text (ipv4_octets a)
address_text (V6 a) = hex_groups_text (ipv6_segments a)

abbrev pub range_text : IpRange → List ℕ
range_text r = address_text r.address ++ (codes "/" ++ decimal r.prefix)

-- an address that a type of addresses has, and no more bits than it has
abbrev pub IsProperRange : IpRange → Type 0
IsProperRange r = MatchIp r.address IsIpv4Addr IsIpv6Addr × (r.prefix ≤ width r.address)

-- ---- what is asked of ranges

-- the first bits of an address
abbrev pub network : IpAddr → ℕ → ℕ
network a prefix = bits a / 2 ^ (width a - prefix)

-- a number is the bits of an address of the range
abbrev pub HasAddress : IpRange → ℕ → Type 0
HasAddress r n = n / 2 ^ (width r.address - r.prefix) ≡ network r.address r.prefix

-- of one version, and alike in the bits that the addresses of the second share
abbrev pub is_in_range : IpRange → IpRange → Bool
is_in_range a b =
    width a.address == width b.address && (nat_le b.prefix a.prefix && network a.address b.prefix == network b.address b.prefix)

-- within one of two ranges, of either version
abbrev pub is_in_either : IpRange → IpRange → IpRange → Bool
is_in_either four six a = is_in_range a four || is_in_range a six

-- 127.0.0.0/8, ::1
abbrev pub is_loopback : IpRange → Bool
is_loopback = is_in_either (record { address = version_4 (127 ∷ 0 ∷ 0 ∷ 0 ∷ []); prefix = 8 })
    (record { address = version_6 (0 ∷ 0 ∷ 0 ∷ 0 ∷ 0 ∷ 0 ∷ 0 ∷ 1 ∷ []); prefix = 128 })

-- 224.0.0.0/4, ff00::/8
abbrev pub is_multicast : IpRange → Bool
is_multicast = is_in_either (record { address = version_4 (224 ∷ 0 ∷ 0 ∷ 0 ∷ []); prefix = 4 })
    (record { address = version_6 (65280 ∷ 0 ∷ 0 ∷ 0 ∷ 0 ∷ 0 ∷ 0 ∷ 0 ∷ []); prefix = 8 })

-- ---- keys: the version, the bits as bytes, the prefix

abbrev pub address_key : IpAddr → List ℕ
address_key (V4 a) = 4 ∷ to_be_bytes w32 (ipv4_bits a)
address_key (V6 a) = 6 ∷ to_be_bytes w128 (ipv6_bits a)

abbrev pub key_of : IpRange → List ℕ
key_of a = address_key a.address ++ a.prefix ∷ []

-- the range of an address of so many octets, and a prefix behind it
abbrev pub ranged : IpAddr → ℕ → ℕ → List ℕ → Option IpRange
ranged a most count rest =
    cond (length rest == count + 1 && nat_le (slice_index rest count) most) (Some (record { address = a; prefix = slice_index rest count })) None

abbrev pub range_in_four : List ℕ → Option IpRange
range_in_four rest = ranged (version_4 (take 4 rest)) 32 4 rest

abbrev pub range_in_six : List ℕ → Option IpRange
range_in_six rest = ranged (version_6 (segments_of (take 16 rest))) 128 16 rest

-- the range of a key
abbrev pub range_in : List ℕ → Option IpRange
range_in [] = None
range_in (v ∷ rest) = cond (v == 4) (range_in_four rest) (cond (v == 6) (range_in_six rest) None)
