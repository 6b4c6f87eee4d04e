-- What std's parser gives is the address of the text.
use Rattle.std.proofs.Common.{◌≡◌, ℕ, List, [], ◌∷◌, Option, Some, None, length, refl, sym, ap, ◌∙◌, subst, append-nil, Bool, true, false, cond, lit≤, ne_eqb, arith}
use Rattle.std.proofs.NetLemmas.Ipv4.{read_ipv4_complete, read_ipv4_sound}
use Rattle.std.proofs.NetLemmas.Ipv6.{read_ipv6_complete, read_ipv6_sound, EndsGroups-nil, IsDotted-not_colon_hex}
use Rattle.std.specs.Option.{option_map}
use Rattle.std.specs.Net.Grammar.{IsIpText, IsDotted, IsColonHex}
use Rattle.std.specs.Net.Reader.{Read, read_ipv4, read_ipv6, whole_value}
use Rattle.std.specs.declared.net.ip_addr.IpAddr.{IpAddr}
use Rattle.std.specs.declared.net.ip_addr.IpAddr.TheVariants.{V4, V6}
use Rattle.cedar_scalars.specs.Ranges.{version_4, version_6, has_point, or_version_6, unless_pointed, address_of}

-- a reader gives nothing to the whole text where each whole value is refuted
nothing_whole : {A : Type 0} (r : Read A) → ((a : A) → r ≡ Some (a, []) → ⊥) → whole_value r ≡ None
nothing_whole None bad = refl
nothing_whole (Some (a, [])) bad = absurd (bad a refl)
nothing_whole (Some (a, b ∷ bs)) bad = rw (ne_eqb (length (b ∷ bs)) 0 (omega arith)) refl

four_read : (text octets : List ℕ) → IsDotted text octets → whole_value (read_ipv4 text) ≡ Some octets
four_read text octets h =
    ap (λ t. whole_value (read_ipv4 t)) (sym (append-nil text)) ∙ ap whole_value (read_ipv4_complete text octets [] h (lit≤ tt))

six_read : (text segments : List ℕ) → IsColonHex text segments → whole_value (read_ipv6 text) ≡ Some segments
six_read text segments h =
    ap (λ t. whole_value (read_ipv6 t)) (sym (append-nil text)) ∙ ap whole_value (read_ipv6_complete text segments [] h EndsGroups-nil)

pub four_spelled : (text octets : List ℕ) → read_ipv4 text ≡ Some (octets, []) → IsDotted text octets
four_spelled text octets e =
    let (front, split, spells) = read_ipv4_sound text octets [] e in
    subst (λ t. IsDotted t octets) (sym (split ∙ append-nil front)) spells

pub six_spelled : (text segments : List ℕ) → read_ipv6 text ≡ Some (segments, []) → IsColonHex text segments
six_spelled text segments e =
    let (front, split, spells) = read_ipv6_sound text segments [] e in
    subst (λ t. IsColonHex t segments) (sym (split ∙ append-nil front)) spells

no_four : (text segments : List ℕ) → IsColonHex text segments → whole_value (read_ipv4 text) ≡ None
no_four text segments h = nothing_whole (read_ipv4 text) (λ octets e. IsDotted-not_colon_hex text octets segments (four_spelled text octets e) h)

pub address_given : (text : List ℕ) (a : IpAddr) → IsIpText text a → unless_pointed text a ≡ address_of text
address_given text (V4 a) h = sym (ap (or_version_6 text) (four_read text (a.octets) h))
address_given text (V6 a) h =
    sym (ap (or_version_6 text) (no_four text (a.segments) h) ∙ ap (λ o. cond (has_point text) None (option_map version_6 o)) (six_read text (a.segments) h))

empty : (b : Bool) → ◌≡◌ {A = Option IpAddr} (cond b None None) None
empty true = refl
empty false = refl

pub no_address_given : (text : List ℕ) → ((a : IpAddr) → ¬ (IsIpText text a)) → None ≡ address_of text
no_address_given text h =
    let none_4 : whole_value (read_ipv4 text) ≡ None = nothing_whole (read_ipv4 text) (λ octets e. h (version_4 octets) (four_spelled text octets e)) in
    let none_6 : whole_value (read_ipv6 text) ≡ None = nothing_whole (read_ipv6 text) (λ segments e. h (version_6 segments) (six_spelled text segments e)) in
    sym (ap (or_version_6 text) none_4 ∙ ap (λ o. cond (has_point text) None (option_map version_6 o)) none_6 ∙ empty (has_point text))
