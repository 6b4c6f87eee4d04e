-- A test of what is made of each element.
use Rattle.std.proofs.Common.{◌≡◌, refl, ap, Bool, ◌||◌, List, [], ◌∷◌, map}
use Rattle.std.specs.List.{list_any}

pub any_of_map : {X Y : Type 0} (p : Y → Bool) (h : X → Y) → (xs : List X) → list_any (λ x. p (h x)) xs ≡ list_any p (map h xs)
any_of_map p h [] = refl
any_of_map p h (x ∷ xs) = ap (λ b. p (h x) || b) (any_of_map p h xs)
