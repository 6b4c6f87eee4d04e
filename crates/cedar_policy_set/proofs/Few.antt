-- Ids that are kept without places.
use Rattle.std.proofs.Common.{◌≡◌, ℕ, zero, suc, ◌+◌, Bool, false, not, cond, ltb, List, [], ◌∷◌, take, refl, sym, ap, subst, Option, None, Some, arith}
use Rattle.std.specs.Prelude.{IfSome, position, remove}
use Rattle.std.specs.List.{position_or_len, AllByRecursion, IsDistinct}
use Rattle.std.specs.Map.{keys_of}
use Rattle.std.proofs.lemmas.List.{length-map, take-map}
use Rattle.cedar_language.specs.Uid.{Text}
use Rattle.cedar_language.specs.Order.{same_text}
use Rattle.cedar_policy_set.specs.Places.{AreKept, Tells}
use Rattle.cedar_policy_set.specs.declared.places.Places.{Places}
use Rattle.cedar_policy_set.proofs.Placing.{distinct_without}
use Rattle.cedar_policy_set.proofs.Telling.{stands_at}

pub kept_few : (places : Option Places) (ids : List Text) → places ≡ None → IsDistinct same_text ids → AreKept places ids
kept_few places ids few distinct = record { distinct = distinct; told = subst (λ o. IfSome o (λ p. Tells p ids)) (sym few) tt }

pub kept_nothing : {V : Type 0} (es : List (Text × V)) → es ≡ [] → AreKept None (keys_of es)
unfolding IsDistinct
kept_nothing es none = subst (λ fs. AreKept None (keys_of fs)) (sym none) (kept_few None [] refl tt)

-- one is taken away
pub kept_without : (places : Option Places) (ids : List Text) (test : Text → Bool) (r : Option ℕ) → places ≡ None → IsDistinct same_text ids → r ≡ position test ids → IfSome r (λ p. AreKept places (remove ids p))
kept_without places ids test None few distinct at = tt
kept_without places ids test (Some p) few distinct at = let (first, within) = stands_at test ids p at in kept_few places (remove ids p) few (distinct_without ids p (omega arith) distinct)

-- what stands from a position on is taken away
all_first : (P : Text → Type 0) (n : ℕ) (xs : List Text) → AllByRecursion P xs → AllByRecursion P (take n xs)
all_first P zero xs all = tt
all_first P (suc n) [] all = tt
all_first P (suc n) (x ∷ xs) all = (all.0, all_first P n xs all.1)

distinct_first : (n : ℕ) (ids : List Text) → IsDistinct same_text ids → IsDistinct same_text (take n ids)
unfolding IsDistinct
distinct_first zero ids distinct = tt
distinct_first (suc n) [] distinct = tt
distinct_first (suc n) (x ∷ xs) distinct = (all_first (λ y. same_text x y ≡ false) n xs distinct.0, distinct_first n xs distinct.1)

pub kept_first : {V : Type 0} (es : List (Text × V)) (n : ℕ) → IsDistinct same_text (keys_of es) → AreKept None (keys_of (take n es))
kept_first es n distinct = subst (AreKept None) (take-map (λ e. e.0) n es) (kept_few None (take n (keys_of es)) refl (distinct_first n (keys_of es) distinct))

-- one is taken out of the places, or no places are left
pub kept_out : (p q : Places) (ids : List Text) (id : Text) (i : ℕ) → Tells p ids → Some i ≡ position (same_text id) ids → ((xs : List Text) → Tells p xs → Some i ≡ position (same_text id) xs → Tells q (remove xs i)) → AreKept (Some q) (remove ids i)
kept_out p q ids id i told at out = record { distinct = (out ids told at).distinct; told = out ids told at }

pub kept_lost : (ids : List Text) (id : Text) (i : ℕ) → IsDistinct same_text ids → Some i ≡ position (same_text id) ids → AreKept None (remove ids i)
kept_lost ids id i distinct at = kept_without None ids (same_text id) (Some i) refl distinct at

-- an entry with an id stands where the id does
module _ {V : Type 0} (test : Text → Bool) where
  first_by_ids : (es : List (Text × V)) → position_or_len (λ e. test e.0) es ≡ position_or_len test (keys_of es)
  first_by_ids [] = refl
  first_by_ids (e ∷ es) = ap (λ p. cond (not (test e.0)) (1 + p) 0) (first_by_ids es)

  pub by_ids : (es : List (Text × V)) → position (λ e. test e.0) es ≡ position test (keys_of es)
  by_ids es = λ i. cond (ltb (first_by_ids es i) (sym (length-map es (λ e. e.0)) i)) (Some (first_by_ids es i)) None
