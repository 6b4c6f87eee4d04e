-- Lists of ids in which no two are equal.
use Rattle.std.proofs.Common.{◌≡◌, Bool, true, false, ◌||◌, List, [], ◌∷◌, ◌++◌, refl, ap, ◌∙◌}
use Rattle.std.specs.List.{IsDistinct, AllByRecursion, list_any}
use Rattle.std.specs.Set.{is_member}
use Rattle.std.proofs.lemmas.Map.Keys.{IsDistinct-head, IsDistinct-tail, IsDistinct-cons}
use Rattle.std.specs.Cmp.Lexicographic.{bytes_decides}
use Rattle.cedar_language.specs.Uid.{Text}
use Rattle.cedar_language.specs.Order.{same_text}
use Rattle.std.specs.Cmp.Lexicographic.{nat_list_eq_equiv as same_text_equiv}
use Rattle.std.proofs.lemmas.Bool.{or_parts}

all_at : (x y : Text) (xs ys : List Text) → AllByRecursion (λ z. same_text x z ≡ false) (xs ++ y ∷ ys) → same_text x y ≡ false
all_at x y [] ys h = h.0
all_at x y (z ∷ xs) ys h = all_at x y xs ys h.1

-- what comes after a part of such a list is no member of the part
pub distinct_apart : (xs : List Text) (y : Text) (ys : List Text) → IsDistinct same_text (xs ++ y ∷ ys) → list_any (same_text y) xs ≡ false
distinct_apart [] y ys d = refl
distinct_apart (x ∷ xs) y ys d =
    let apart : same_text y x ≡ false = same_text_equiv.symm y x ∙ all_at x y xs ys (IsDistinct-head same_text x (xs ++ y ∷ ys) d) in
    rw apart (distinct_apart xs y ys (IsDistinct-tail same_text x (xs ++ y ∷ ys) d))

all_append : (x : Text) (xs ys : List Text) → AllByRecursion (λ z. same_text x z ≡ false) xs → AllByRecursion (λ z. same_text x z ≡ false) ys → AllByRecursion (λ z. same_text x z ≡ false) (xs ++ ys)
all_append x [] ys h k = k
all_append x (z ∷ xs) ys h k = (h.0, all_append x xs ys h.1 k)

all_from : (x : Text) (ys : List Text) → ((a : Text) → is_member same_text ys a ≡ true → same_text x a ≡ false) → AllByRecursion (λ z. same_text x z ≡ false) ys
all_from x [] h = tt
all_from x (y ∷ ys) h = (h y (ap (λ b. b || is_member same_text ys y) ((bytes_decides y y).1 refl)), all_from x ys (λ a m. h a (by (same_text a y) m)))
  where
    by : {b : Bool} → (c : Bool) → b ≡ true → (c || b) ≡ true
    by true m = refl
    by false m = m

-- two such lists, where no member of the one is a member of the other
pub distinct_append : (xs ys : List Text) → IsDistinct same_text xs → IsDistinct same_text ys → ((a : Text) → is_member same_text ys a ≡ true → is_member same_text xs a ≡ false) → IsDistinct same_text (xs ++ ys)
distinct_append [] ys d e free = e
distinct_append (x ∷ xs) ys d e free =
    IsDistinct-cons same_text x (xs ++ ys)
    (all_append x xs ys (IsDistinct-head same_text x xs d) (all_from x ys (λ a m. same_text_equiv.symm x a ∙ (or_parts (same_text a x) _ (free a m)).0)))
    (distinct_append xs ys (IsDistinct-tail same_text x xs d) e (λ a m. (or_parts (same_text a x) _ (free a m)).1))
