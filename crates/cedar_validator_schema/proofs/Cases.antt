-- What is put at a key, and lists from their ends.
use Rattle.std.proofs.Common.{◌≡◌, ◌+◌, ◌-◌, ◌<◌, ◌≤◌, ℕ, Bool, true, false, cond, List, [], ◌∷◌, ◌++◌, length, drop, take, get_or, Option, Some, None, refl, sym, ap, ◌∙◌, arith}
use Rattle.std.specs.Prelude.{map, is_some, option_map}
use Rattle.std.proofs.lemmas.List.{drop_more, take_more, map-append}

pub put_case : {A B C : Type 0} (f : Option A → C) (g : Option B → C) (x : A) (y : B) (o : Option A) (p : Option B) → f (Some x) ≡ g (Some y) → f o ≡ g p
    → (b : Bool) → f (cond b (Some x) o) ≡ g (cond b (Some y) p)
put_case f g x y o p here there true = here
put_case f g x y o p here there false = there

pub row_case : {B C : Type 0} (g : Option B → C) (x z : C) (y : B) (p : Option B) → x ≡ g (Some y) → z ≡ g p → (b : Bool) → cond b x z ≡ g (cond b (Some y) p)
row_case g x z y p here there true = here
row_case g x z y p here there false = there

pub some_map : {A B : Type 0} (f : A → B) (o : Option A) → is_some (option_map f o) ≡ is_some o
some_map f (Some x) = refl
some_map f None = refl

-- one more in front of the last ones
pub lower : {A B : Type 0} (view : A → B) (xs : List A) (k : ℕ) (x : A) → 0 < k → k ≤ length xs → x ≡ get_or xs (k - 1) x
    → map view (drop (k - 1) xs) ≡ view x ∷ map view (drop k xs)
lower view xs k x low high here =
    let up : k - 1 + 1 ≡ k = omega arith in
    ap (map view) (drop_more xs (k - 1) x (omega arith) ∙ ap (λ y. y ∷ drop (k - 1 + 1) xs) (sym here) ∙ ap (λ j. x ∷ drop j xs) up)

-- one more behind the first ones
pub higher : {A B : Type 0} (view : A → B) (xs : List A) (i : ℕ) (x : A) → i < length xs → x ≡ get_or xs i x
    → map view (take (i + 1) xs) ≡ map view (take i xs) ++ view x ∷ []
higher view xs i x low here = ap (map view) (take_more xs i x low ∙ ap (λ y. take i xs ++ y ∷ []) (sym here)) ∙ map-append view (take i xs) (x ∷ [])
