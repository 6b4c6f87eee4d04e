-- Names of a list, each once.
use Rattle.std.proofs.Common.{◌≡◌, ◌∙◌, refl, ap, sym, Bool, true, false, cond, ◌||◌, List, [], ◌∷◌, map}
use Rattle.std.specs.List.{dedup, dedup_from, list_any}

absorbed : (a b r : Bool) → b ≡ a → (a || r) ≡ (a || (b || r))
absorbed true b r h = refl
absorbed false b r h = sym (ap (λ x. x || r) h)

module _ {X : Type 0} (E : X → X → Bool) (test : X → Bool) (respects : (a b : X) → E a b ≡ true → test a ≡ test b) where
  one_kept : (k x : X) (xs : List X) (b : Bool) → E x k ≡ b → list_any test (dedup_from E k xs) ≡ (test k || list_any test xs) → list_any test (dedup_from E x xs) ≡ (test x || list_any test xs)
      → list_any test (cond b (dedup_from E k xs) (k ∷ dedup_from E x xs)) ≡ (test k || (test x || list_any test xs))
  one_kept k x xs true is here there = here ∙ absorbed (test k) (test x) (list_any test xs) (respects x k is)
  one_kept k x xs false is here there = ap (λ b. test k || b) there

  any-dedup_from : (k : X) (xs : List X) → list_any test (dedup_from E k xs) ≡ (test k || list_any test xs)
  any-dedup_from k [] = refl
  any-dedup_from k (x ∷ xs) = one_kept k x xs (E x k) refl (any-dedup_from k xs) (any-dedup_from x xs)

  pub any-dedup : (xs : List X) → list_any test (dedup E xs) ≡ list_any test xs
  any-dedup [] = refl
  any-dedup (x ∷ xs) = any-dedup_from x xs

pub any-map : {X Y : Type 0} (f : X → Y) (test : Y → Bool) (xs : List X) → list_any test (map f xs) ≡ list_any (λ x. test (f x)) xs
any-map f test [] = refl
any-map f test (x ∷ xs) = ap (λ b. test (f x) || b) (any-map f test xs)
