-- Booleans, and members of lists.
use Rattle.std.proofs.Common.{◌≡◌, ◌⊎◌, inl, inr, ℕ, zero, suc, ◌<◌, arith, Bool, true, List, [], ◌∷◌, map, length, get_or, Contains, refl, sym, ◌∙◌, ap, true≢false}
use Rattle.cedar_language.specs.Answering.{Judged, some}
pub use Rattle.cedar_lemmas.proofs.Booleans.{or_either as or_cases, and_first as and_left, and_second as and_right}
pub use Rattle.std.proofs.lemmas.Bool.{or_left, or_right, and_from as and_both}

-- ---- members

-- x is one of the list
abbrev pub IsAmong : {X : Type 0} → X → List X → Type 0
IsAmong x [] = ⊥
IsAmong x (y ∷ ys) = (y ≡ x) ⊎ IsAmong x ys

among_at : {X : Type 0} (xs : List X) (x : X) (k : ℕ) → k < length xs → get_or xs k x ≡ x → IsAmong x xs
among_at [] x k l e = absurd (omega arith)
among_at (y ∷ ys) x zero l e = inl e
among_at (y ∷ ys) x (suc k) l e = inr (among_at ys x k (omega arith) e)

pub contained : {X : Type 0} (xs : List X) (x : X) → Contains xs x → IsAmong x xs
contained xs x c = among_at xs x c.0 c.1 c.2

pub contains : {X : Type 0} (xs : List X) (x : X) → IsAmong x xs → Contains xs x
contains [] x a = absurd a
contains (y ∷ ys) x (inl e) = (0, omega arith, e)
contains (y ∷ ys) x (inr a) = let c = contains ys x a in let l = c.1 in (suc c.0, omega arith, c.2)

pub mapped : {X Y : Type 0} (f : X → Y) (xs : List X) (x : X) → IsAmong x xs → IsAmong (f x) (map f xs)
mapped f [] x a = a
mapped f (y ∷ ys) x (inl e) = inl (ap f e)
mapped f (y ∷ ys) x (inr a) = inr (mapped f ys x a)

pub unmapped : {X Y : Type 0} (f : X → Y) (xs : List X) (y : Y) → IsAmong y (map f xs) → (x : X) × IsAmong x xs × (f x ≡ y)
unmapped f [] y a = absurd a
unmapped f (x ∷ xs) y (inl e) = (x, inl refl, e)
unmapped f (x ∷ xs) y (inr a) = let u = unmapped f xs y a in (u.0, inr u.1, u.2)

-- ---- tests on some member

pub some_of : (f : Judged → Bool) (js : List Judged) (j : Judged) → IsAmong j js → f j ≡ true → some f js ≡ true
some_of f [] j a h = absurd a
some_of f (k ∷ ks) j (inl e) h = or_left (f k) (some f ks) (ap f e ∙ h)
some_of f (k ∷ ks) j (inr a) h = or_right (f k) (some f ks) (some_of f ks j a h)

pub of_some : (f : Judged → Bool) (js : List Judged) → some f js ≡ true → (j : Judged) × IsAmong j js × (f j ≡ true)
of_some f [] h = absurd (true≢false (sym h))
of_some f (k ∷ ks) h =
    elim (or_cases (f k) (some f ks) h) [
      | inl e ↦ (k, inl refl, e)
      | inr e ↦ let u = of_some f ks e in (u.0, inr u.1, u.2)
    ]
