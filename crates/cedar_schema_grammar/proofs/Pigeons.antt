-- As many different things as there are in a list are all in it.
use Rattle.std.proofs.Common.{◌≡◌, inl, inr, suc, ◌≤◌, List, [], ◌∷◌, length, refl, sym, ap, ◌∙◌, arith}
use Rattle.cedar_schema_grammar.specs.Reaching.{IsAmong}

-- no two of them are one
abbrev pub AllApart : {K : Type 0} → List K → Type 0
AllApart [] = Unit {0}
AllApart (x ∷ xs) = (IsAmong x xs → ⊥) × AllApart xs

abbrev pub AllAmong : {K : Type 0} → List K → List K → Type 0
AllAmong [] ks = Unit {0}
AllAmong (x ∷ xs) ks = IsAmong x ks × AllAmong xs ks

-- a list without one of its members
record Without {K : Type 0} (x : K) (ks : List K) : Type 0 where
  pub left : List K
  pub shorter : length ks ≡ suc (length left)
  pub others : (y : K) → (y ≡ x → ⊥) → IsAmong y ks → IsAmong y left

others_than_first : {K : Type 0} (x k : K) (ks : List K) → x ≡ k → (y : K) → (y ≡ x → ⊥) → IsAmong y (k ∷ ks) → IsAmong y ks
others_than_first x k ks e y apart (inl f) = absurd (apart (f ∙ sym e))
others_than_first x k ks e y apart (inr m) = m

others_than_later : {K : Type 0} (x k : K) (ks left : List K) → ((y : K) → (y ≡ x → ⊥) → IsAmong y ks → IsAmong y left) → (y : K) → (y ≡ x → ⊥) → IsAmong y (k ∷ ks) → IsAmong y (k ∷ left)
others_than_later x k ks left f y apart (inl e) = inl e
others_than_later x k ks left f y apart (inr m) = inr (f y apart m)

without : {K : Type 0} (x : K) (ks : List K) → IsAmong x ks → Without x ks
without x [] m = absurd m
without x (k ∷ ks) (inl e) = record { left = ks; shorter = refl; others = others_than_first x k ks e }
without x (k ∷ ks) (inr n) =
    let w = without x ks n in
    record { left = k ∷ w.left; shorter = ap suc w.shorter; others = others_than_later x k ks w.left w.others }

others_among : {K : Type 0} (x : K) (ks left : List K) → ((y : K) → (y ≡ x → ⊥) → IsAmong y ks → IsAmong y left) → (xs : List K) → (IsAmong x xs → ⊥) → AllAmong xs ks → AllAmong xs left
others_among x ks left f [] apart h = tt
others_among x ks left f (y ∷ ys) apart h = (f y (λ e. apart (inl (sym e))) h.0, others_among x ks left f ys (λ m. apart (inr m)) h.1)

pub no_more_than : {K : Type 0} (xs ks : List K) → AllApart xs → AllAmong xs ks → length xs ≤ length ks
no_more_than [] ks apart among = omega arith
no_more_than (x ∷ xs) ks apart among =
    let w = without x ks among.0 in
    let shorter = w.shorter in
    let rest = no_more_than xs w.left apart.1 (others_among x ks w.left w.others xs apart.0 among.1) in
    omega arith
