-- Texts of which one is over, compared.
use Rattle.std.proofs.Common.{◌≡◌, ℕ, ◌+◌, ◌-◌, ◌<◌, List, [], ◌∷◌, length, drop, min, refl, ◌∙◌, arith}
use Rattle.std.specs.Cmp.{ranks, nat_cmp_is}
use Rattle.std.specs.Ordering.{nat_cmp, MatchOrdering}
use Rattle.std.specs.declared.cmp.Ordering.{Ordering}
use Rattle.std.specs.declared.cmp.Ordering.TheVariants.{Less, Equal, Greater}
use Rattle.std.proofs.lemmas.List.{length-drop}
use Rattle.cedar_language.specs.Order.{text_cmp}

-- where one of two texts is over, the lengths decide
cmp-lengths : (us vs : List ℕ) → min (length us) (length vs) ≡ 0 → text_cmp us vs ≡ nat_cmp (length us) (length vs)
cmp-lengths [] [] e = refl
cmp-lengths [] (v ∷ vs) e = nat_cmp_is 0 (length (v ∷ vs)) Less (omega arith)
cmp-lengths (u ∷ us) [] e = nat_cmp_is (length (u ∷ us)) 0 Greater (omega arith)
cmp-lengths (u ∷ us) (v ∷ vs) e = absurd (omega arith)

longer : (a b n m i : ℕ) → a ≡ n + i → b ≡ m + i → (r : Ordering) → MatchOrdering r (n < m) (n ≡ m) (m < n) → MatchOrdering r (a < b) (a ≡ b) (b < a)
longer a b n m i e f Less h = let l : n < m = h in omega arith
longer a b n m i e f Equal h = let l : n ≡ m = h in omega arith
longer a b n m i e f Greater h = let l : m < n = h in omega arith

pub cmp-ended : (xs ys : List ℕ) (i : ℕ) → i ≡ min (length xs) (length ys) → text_cmp (drop i xs) (drop i ys) ≡ nat_cmp (length xs) (length ys)
cmp-ended xs ys i e =
    let us : length (drop i xs) ≡ length xs - i = length-drop i xs in
    let vs : length (drop i ys) ≡ length ys - i = length-drop i ys in
    cmp-lengths (drop i xs) (drop i ys) (omega arith)
    ∙ nat_cmp_is (length xs) (length ys) _ (longer (length xs) (length ys) (length (drop i xs)) (length (drop i ys)) i (omega arith) (omega arith) _ (ranks (length (drop i xs)) (length (drop i ys))))
