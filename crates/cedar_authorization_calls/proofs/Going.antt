-- Lists that grow by what each item gives.
use Rattle.std.proofs.Common.{◌≡◌, ℕ, ◌+◌, List, [], ◌∷◌, ◌++◌, drop, map, sym, ap, ◌∙◌, append_assoc}
use Rattle.std.specs.List.{flat_map}
use Rattle.std.proofs.lemmas.List.{map-append}

module _ {X A : Type 0} (f : X → List A) where
  -- what was given so far, and what the items to come give, once one of them has given
  pub gone_on : (xs : List X) (i : ℕ) (x : X) (old now new : List A) → drop i xs ≡ x ∷ drop (i + 1) xs → now ++ flat_map f (drop i xs) ≡ old ++ flat_map f xs
      → new ≡ now ++ f x → new ++ flat_map f (drop (i + 1) xs) ≡ old ++ flat_map f xs
  gone_on xs i x old now new here before grown =
      ap (λ ns. ns ++ flat_map f (drop (i + 1) xs)) grown ∙ append_assoc now (f x) (flat_map f (drop (i + 1) xs))
      ∙ sym (ap (λ ys. now ++ flat_map f ys) here) ∙ before

module _ {X Y A : Type 0} (f : X → A) (g : Y → A) where
  -- the same where each item gives one
  pub one_on : (xs : List X) (i : ℕ) (x : X) (y : Y) (old : List A) (now new : List Y) → drop i xs ≡ x ∷ drop (i + 1) xs
      → map g now ++ map f (drop i xs) ≡ old ++ map f xs → new ≡ now ++ y ∷ [] → g y ≡ f x → map g new ++ map f (drop (i + 1) xs) ≡ old ++ map f xs
  one_on xs i x y old now new here before grown same =
      let rest = map f (drop (i + 1) xs) in
      ap (λ ns. map g ns ++ rest) grown ∙ ap (λ ns. ns ++ rest) (map-append g now (y ∷ [])) ∙ append_assoc (map g now) (g y ∷ []) rest
      ∙ ap (λ a. map g now ++ a ∷ rest) same ∙ sym (ap (λ ys. map g now ++ map f ys) here) ∙ before
