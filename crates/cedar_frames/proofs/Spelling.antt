-- The frame of a command.
use Rattle.std.proofs.Common.{◌≡◌, ℕ, List, [], ◌∷◌, ◌++◌, ◌<◌, ◌≤◌, ◌+◌, ◌^◌, ◌⊎◌, inl, inr, zero, suc, length, length-append, refl, sym, ap, ◌∙◌, true, arith, ◌&&◌, ◌||◌, ◌==◌, not, nat_le, slice_index, get_or, decimal}
use Rattle.std.proofs.lemmas.Fmt.{digits_decimal, digits_value-decimal, decimal-digits_value, decimal_nonempty, length-decimal-le, first_decimal}
use Rattle.std.proofs.lemmas.Str.Parse.{IsNumeralModel, numerals_by_fold, tells_all_ascii_digits}
use Rattle.std.proofs.lemmas.Grind.{common_steps}
use Rattle.std.specs.Str.{all_ascii_digits}
use Rattle.cedar_frames.specs.declared.verb.Verb.{Verb}
use Rattle.cedar_frames.specs.declared.verb.Verb.TheVariants.{Load, Link, Unlink, RemoveStatic, RemoveTemplate, Add, Put, Remove, Ask, Tell}
use Rattle.cedar_frames.specs.Heads.{verb_name, IsHead, head_limit, body_limit, is_numeral, number_after, number_of}
use Rattle.cedar_frames.specs.Frames.{IsFrame}
use Rattle.cedar_frames.specs.Laws.{CommandsHaveAFrame}
use Rattle.cedar_frames.proofs.Heads.{and_parts}

-- these digits and numbers are std's
numerals : IsNumeralModel (λ ds. all_ascii_digits ds ≡ true) (number_after 0)
numerals = numerals_by_fold (λ ds. all_ascii_digits ds ≡ true) tells_all_ascii_digits number_after (record { empty = λ n. refl; more = λ n c cs h. refl })

-- what a numeral is
leads : (digits : List ℕ) → 0 < length digits → (length digits ≤ 1) ⊎ (48 < get_or digits 0 0) → all_ascii_digits digits ≡ true → is_numeral digits ≡ true
leads digits some (inl one) all = grind (arith, common_steps)
leads digits some (inr first) all = grind (arith, common_steps)

decimal_leads : (n : ℕ) → n < 2 ^ 64 → (length (decimal n) ≤ 1) ⊎ (48 < get_or (decimal n) 0 0)
decimal_leads zero h = inl (length-decimal-le 1 0 (omega arith) (omega arith) h)
decimal_leads (suc n) h = inr (first_decimal (suc n) (omega arith) h)

pub decimal_is_numeral : (n : ℕ) → n < 2 ^ 64 → is_numeral (decimal n) ≡ true
decimal_is_numeral n h = leads (decimal n) (decimal_nonempty n h) (decimal_leads n h) (digits_decimal numerals n h)

lead_alone : (digits : List ℕ) → is_numeral digits ≡ true → (0 < length digits) × (get_or digits 0 0 ≡ 48 → length digits ≡ 1)
lead_alone [] h = cc
lead_alone (d ∷ []) h = (omega arith, λ _. refl)
lead_alone (d ∷ e ∷ ds) h =
    let p = and_parts (all_ascii_digits (d ∷ e ∷ ds)) (not (length (d ∷ e ∷ ds) == 0) && (nat_le (length (d ∷ e ∷ ds)) 1 || not (d == 48))) h in
    let q = and_parts (not (length (d ∷ e ∷ ds) == 0)) (nat_le (length (d ∷ e ∷ ds)) 1 || not (d == 48)) p.1 in
    (omega arith, λ zero_first. absurd (grind (arith, common_steps)))

-- a number has one numeral
numeral_is_decimal : (digits : List ℕ) (n : ℕ) → n < 2 ^ 64 → is_numeral digits ≡ true → number_of digits ≡ n → digits ≡ decimal n
numeral_is_decimal digits n small h e =
    let all = (and_parts (all_ascii_digits digits) (not (length digits == 0) && (nat_le (length digits) 1 || not (slice_index digits 0 == 48))) h).0 in
    let lead = lead_alone digits h in
    let fits : number_of digits < 2 ^ 64 = omega (arith, e, small) in
    sym (decimal-digits_value numerals digits all lead.0 lead.1 fits) ∙ ap decimal e

name_is_short : (verb : Verb) → length (verb_name verb) ≤ 15
name_is_short Load = omega arith
name_is_short Link = omega arith
name_is_short Unlink = omega arith
name_is_short RemoveStatic = omega arith
name_is_short RemoveTemplate = omega arith
name_is_short Add = omega arith
name_is_short Put = omega arith
name_is_short Remove = omega arith
name_is_short Ask = omega arith
name_is_short Tell = omega arith

spelled_line : Verb → ℕ → List ℕ
spelled_line verb len = verb_name verb ++ 32 ∷ decimal len

line_is_short : (verb : Verb) (len : ℕ) → len ≤ body_limit → length (spelled_line verb len) ≤ head_limit
unfolding spelled_line
line_is_short verb len fits =
    let digits = length-decimal-le 7 len (omega arith) (omega arith) (omega arith) in
    let name = name_is_short verb in
    let all : length (verb_name verb ++ 32 ∷ decimal len) ≡ length (verb_name verb) + length (32 ∷ decimal len) = length-append (verb_name verb) (32 ∷ decimal len) in
    omega arith

spelled_head : (verb : Verb) (len : ℕ) → len ≤ body_limit → IsHead (spelled_line verb len) verb len
unfolding spelled_line
spelled_head verb len fits =
    let small : len < 2 ^ 64 = omega arith in
    (decimal len, refl, decimal_is_numeral len small, digits_value-decimal numerals len small)

spelled : Verb → List ℕ → List ℕ
spelled verb body = ((spelled_line verb (length body) ++ 10 ∷ []) ++ body) ++ 10 ∷ []

spelled_frame : (verb : Verb) (body : List ℕ) → length body ≤ body_limit → IsFrame (spelled verb body) verb body
unfolding spelled
spelled_frame verb body fits = record {
  head = spelled_line verb (length body) ++ 10 ∷ [];
  opens = record { line = spelled_line verb (length body); is = refl; short = line_is_short verb (length body) fits; head = spelled_head verb (length body) fits };
  fits = fits;
  is = refl;
}

frame_is_spelled : (frame : List ℕ) (verb : Verb) (body : List ℕ) → IsFrame frame verb body → frame ≡ spelled verb body
unfolding spelled spelled_line
frame_is_spelled frame verb body f =
    let h = f.opens.head in
    let fits = f.fits in
    let digits = numeral_is_decimal h.0 (length body) (omega arith) h.2 h.3 in
    f.is ∙ ap (λ l. (l ++ body) ++ 10 ∷ []) (f.opens.is ∙ ap (λ l. l ++ 10 ∷ []) (h.1 ∙ ap (λ l. verb_name verb ++ 32 ∷ l) digits))

pub commands_have_a_frame : CommandsHaveAFrame
commands_have_a_frame verb body fits = (spelled verb body, spelled_frame verb body fits, λ other f. frame_is_spelled other verb body f)
