-- The domain of a text is what stands behind its last `@`, and of another number of arguments there is none.
use Rattle.std.proofs.Common.{◌≡◌, ◌≢◌, ◌<◌, ◌++◌, ◌==◌, ℕ, suc, [], ◌∷◌, List, Some, None, length, take, drop, cond, get_or, refl, sym, ap, ◌∙◌, take-append-drop, arith}
use Rattle.std.specs.Option.{option_or}
use Rattle.std.specs.Str.Pattern.{RFindsChar}
use Rattle.std.proofs.lemmas.Str.Pattern.{NoCharPasses-char, drop_at_char}
use Rattle.cedar_language.specs.Value.{Value}
use Rattle.cedar_language.specs.Order.{all_of}
use Rattle.cedar_type_examples.specs.Domain.{at_sign, domain_of, domain_alone}

abbrev Lacks : List ℕ → Type 0
Lacks bs = (i : ℕ) → i < length bs → get_or bs i 0 ≢ at_sign

other : (b : ℕ) (bs : List ℕ) → b ≢ at_sign → domain_of bs ≡ None → domain_of (b ∷ bs) ≡ None
other b bs n e = grind arith

lacking : (bs : List ℕ) → Lacks bs → domain_of bs ≡ None
lacking [] h = refl
lacking (b ∷ bs) h = other b bs (h 0 (omega arith)) (lacking bs (λ i l. h (suc i) (omega arith)))

behind : (front rest t : List ℕ) → domain_of rest ≡ Some t → domain_of (front ++ rest) ≡ Some t
behind [] rest t h = h
behind (b ∷ front) rest t h = ap (λ o. option_or o (cond (b == at_sign) (Some (front ++ rest)) None)) (behind front rest t h)

last : (bs : List ℕ) → domain_of bs ≡ None → domain_of (at_sign ∷ bs) ≡ Some bs
last bs e = ap (λ o. option_or o (Some bs)) e

pub is_domain : (bs : List ℕ) (i j : ℕ) → RFindsChar at_sign bs (Some (i, j)) → domain_of bs ≡ Some (drop j bs)
is_domain bs i j h =
    let none = lacking (drop j bs) (λ k. NoCharPasses-char at_sign (drop j bs) k h.0 (omega arith)) in
    ap domain_of (sym (take-append-drop i bs) ∙ ap (λ l. take i bs ++ l) (drop_at_char at_sign bs i j h.1 (omega arith))) ∙ behind (take i bs) _ _ (last _ none)

pub no_domain : (bs : List ℕ) → RFindsChar at_sign bs None → domain_of bs ≡ None
no_domain bs h = lacking bs (λ i. NoCharPasses-char at_sign bs i h (omega arith))

pub not_alone : (vs : List Value) → length vs ≢ 1 → domain_alone (all_of vs) ≡ None
not_alone (v ∷ []) h = absurd (h refl)
not_alone vs h = refl
