-- Texts that are too long.
use Rattle.std.proofs.Common.{◌≡◌, ℕ, ◌+◌, ◌<◌, ◌≤◌, List, [], ◌∷◌, ◌++◌, length, get_or, take, refl, ap, sym, subst, ◌∙◌, arith, All}
use Rattle.std.proofs.lemmas.List.{take_all, take_more}
use Rattle.std.proofs.lemmas.List.Elements.{All-append, All-cons, All-get_or}

module _ {A : Type 0} (P : A → Type 0) where
  -- one of a list isn't so
  pub not_all : (xs : List A) (i : ℕ) (x : A) → i < length xs → x ≡ get_or xs i x → (P x → ⊥) → All P xs → ⊥
  not_all xs i x within is other all = other (subst P (sym is) (All-get_or P xs i x within all))

  pub all_none : All P []
  all_none k d within = absurd (omega (arith, within))

  -- one more is so
  pub all_more : (xs : List A) (i : ℕ) (x : A) → i < length xs → x ≡ get_or xs i x → P x → All P (take i xs) → All P (take (i + 1) xs)
  all_more xs i x within is here before =
      let taken : take i xs ++ x ∷ [] ≡ take (i + 1) xs = ap (λ y. take i xs ++ y ∷ []) is ∙ sym (take_more xs i x within) in
      subst (All P) taken (All-append P (take i xs) (x ∷ []) before (All-cons P x [] here all_none))

  pub all_taken : (xs : List A) (i : ℕ) → length xs ≤ i → All P (take i xs) → All P xs
  all_taken xs i past all = subst (All P) (take_all i xs past) all
