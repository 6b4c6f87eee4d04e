-- Lists of uids that are sorted and searched.
use Rattle.std.proofs.Common.{◌≡◌, cond, ℕ, zero, suc, ◌+◌, ◌<◌, length, Bool, true, false, ◌||◌, inl, inr, List, [], ◌∷◌, ◌++◌, Result, Ok, Err, refl, sym, ap, subst, ◌∙◌, arith, slice_index_or, ◌≤◌, ◌^◌, not}
use Rattle.std.specs.declared.cmp.Ordering.{Ordering}
use Rattle.std.specs.declared.cmp.Ordering.TheVariants.{Less, Equal, Greater}
use Rattle.std.specs.Ordering.{is_eq, is_lt, ordering_reverse}
use Rattle.std.specs.Result.{is_ok}
use Rattle.std.specs.FinSet as set
use Rattle.std.specs.List.{list_any, dedup, dedup_from, filter}
use Rattle.std.specs.List.Sorted.{IsPermutation, IsSorted, IsSortedBy, IsBinarySearchResult, IsSearchInRange, IsPartitionPoint}
use Rattle.std.proofs.lemmas.Bool.{cases_lt}
use Rattle.std.proofs.lemmas.List.Kept.{IsStrictlySortedBy-dedup}
use Rattle.std.proofs.lemmas.List.Sorted.{list_any-IsPermutation, searchable_from_sorted}
use Rattle.std.proofs.lemmas.List.{length-append}
use Rattle.std.proofs.lemmas.Map.Keys.{Less-from_sorted}
use Rattle.cedar_language.specs.Uid.{Uid}
use Rattle.cedar_language.specs.Order.{uid_cmp, same_uid}
use Rattle.cedar_literals.specs.Laws.{uid_cmp_total, uid_cmp_ties, same_uid_equiv}
use Rattle.cedar_entities.specs.Lists.{UidSet, AreRising, beside}
use Rattle.cedar_entities.proofs.UidSets.{contains-listed, same_uids, uid_is}

-- ---- sorting

twice : (a b c : Bool) → a ≡ b → (a || c) ≡ (a || (b || c))
twice true b c e = refl
twice false true c e = let never : false ≡ true = e in cc
twice false false c e = refl

-- the first of two that are one goes
one_of_two : (q x y : Uid) (ys : List Uid) (b : Bool) → same_uid y x ≡ b
    → list_any (same_uid q) (dedup_from same_uid x ys) ≡ (same_uid q x || list_any (same_uid q) ys)
    → list_any (same_uid q) (dedup_from same_uid y ys) ≡ (same_uid q y || list_any (same_uid q) ys)
    → list_any (same_uid q) (cond b (dedup_from same_uid x ys) (x ∷ dedup_from same_uid y ys)) ≡ (same_uid q x || (same_uid q y || list_any (same_uid q) ys))
one_of_two q x y ys true e h k = h ∙ twice (same_uid q x) (same_uid q y) (list_any (same_uid q) ys) (ap (same_uid q) (sym (uid_is y x e)))
one_of_two q x y ys false e h k = ap (λ b. same_uid q x || b) k

dedup_from_any : (q x : Uid) (xs : List Uid) → list_any (same_uid q) (dedup_from same_uid x xs) ≡ (same_uid q x || list_any (same_uid q) xs)
dedup_from_any q x [] = refl
dedup_from_any q x (y ∷ ys) = one_of_two q x y ys (same_uid y x) refl (dedup_from_any q x ys) (dedup_from_any q y ys)

dedup_any : (q : Uid) (xs : List Uid) → list_any (same_uid q) (dedup same_uid xs) ≡ list_any (same_uid q) xs
dedup_any q [] = refl
dedup_any q (x ∷ xs) = dedup_from_any q x xs

-- sorting and taking out doubles changes no set
pub sorted_set : (xs sorted left : List Uid) → IsPermutation xs sorted → left ≡ dedup same_uid sorted → set.from_list {R = uid_cmp} left ≡ set.from_list xs
sorted_set xs sorted left moved is = same_uids _ _ (λ q.
    contains-listed left q ∙ ap (λ us. list_any (same_uid q) us) is ∙ dedup_any q sorted
    ∙ sym (list_any-IsPermutation (same_uid q) xs sorted moved) ∙ sym (contains-listed xs q))

pub sorted_rises : (sorted left : List Uid) → IsSorted uid_cmp sorted → left ≡ dedup same_uid sorted → AreRising left
sorted_rises sorted left h is = subst AreRising (sym is) (IsStrictlySortedBy-dedup uid_cmp_total uid_cmp_ties sorted h)

-- ---- searching

tied : (u y : Uid) (o : Ordering) → uid_cmp y u ≡ o → same_uid u y ≡ is_eq o
tied u y o e = same_uid_equiv.symm u y ∙ uid_cmp_ties y u ∙ ap is_eq e

member_at : (u d : Uid) (xs : List Uid) (i : ℕ) → i < length xs → same_uid u (slice_index_or xs i d) ≡ true → list_any (same_uid u) xs ≡ true
member_at u d [] i h e = absurd (omega arith)
member_at u d (x ∷ xs) zero h e = ap (λ b. b || list_any (same_uid u) xs) e
member_at u d (x ∷ xs) (suc i) h e = or_else (same_uid u x) (list_any (same_uid u) xs) (member_at u d xs i (omega arith) e)
  where
    or_else : (a b : Bool) → b ≡ true → (a || b) ≡ true
    or_else true b e = refl
    or_else false b e = e

none_at : (u d : Uid) (xs : List Uid) → ((k : ℕ) → k < length xs → same_uid u (slice_index_or xs k d) ≡ false) → list_any (same_uid u) xs ≡ false
none_at u d [] h = refl
none_at u d (x ∷ xs) h = ap (λ b. b || list_any (same_uid u) xs) (h 0 (omega arith)) ∙ none_at u d xs (λ k l. h (suc k) (omega arith))

sorted_once : (xs : List Uid) → AreRising xs → IsSortedBy (λ a b. is_lt (uid_cmp a b)) xs
sorted_once xs rises k d low high =
    let step : k < k + 1 = omega arith in
    ap is_lt (uid_cmp_total.antisymm (slice_index_or xs (k + 1) d) (slice_index_or xs k d) ∙ ap ordering_reverse (Less-from_sorted uid_cmp xs k (k + 1) d rises step high))

-- a binary search finds what a list has
pub searched : (xs : List Uid) (u : Uid) → AreRising xs → (r : Result ℕ ℕ) → IsSearchInRange r (length xs) → IsBinarySearchResult (λ y. uid_cmp y u) xs r → is_ok r ≡ list_any (same_uid u) xs
searched xs u rises (Ok i) within found = sym (member_at u u xs i within (tied u (slice_index_or xs i u) Equal (found u)))
searched xs u rises (Err i) within found =
    let split = found (searchable_from_sorted uid_cmp_total (λ y. y) xs u (sorted_once xs rises)) in
    sym (none_at u u xs (λ k l. elim (cases_lt k i) [
      | inl h ↦ tied u (slice_index_or xs k u) Less (split.0 k u (omega arith) h)
      | inr h ↦ tied u (slice_index_or xs k u) Greater (split.1 k u h l)
    ]))

-- and else parts it
pub parted : (xs : List Uid) (u : Uid) (i : ℕ) → AreRising xs → IsBinarySearchResult (λ y. uid_cmp y u) xs (Err i)
    → IsPartitionPoint (λ y. uid_cmp y u ≡ Less) (λ y. uid_cmp y u ≡ Greater) xs i
parted xs u i rises found = found (searchable_from_sorted uid_cmp_total (λ y. y) xs u (sorted_once xs rises))

-- ---- two lists that have a uid in common

any_or : (p q : Uid → Bool) (ks : List Uid) → list_any (λ k. p k || q k) ks ≡ (list_any p ks || list_any q ks)
any_or p q [] = refl
any_or p q (k ∷ ks) = ap (λ b. (p k || q k) || b) (any_or p q ks) ∙ four (p k) (q k) (list_any p ks) (list_any q ks)
  where
    four : (a b c d : Bool) → ((a || b) || (c || d)) ≡ ((a || c) || (b || d))
    four true b c d = refl
    four false true true d = refl
    four false true false d = refl
    four false false true d = refl
    four false false false d = refl

any_none : (ks : List Uid) → list_any (λ k. false) ks ≡ false
any_none [] = refl
any_none (k ∷ ks) = any_none ks

any_same : (p q : Uid → Bool) → ((k : Uid) → p k ≡ q k) → (ks : List Uid) → list_any p ks ≡ list_any q ks
any_same p q same [] = refl
any_same p q same (k ∷ ks) = ap (λ b. b || list_any p ks) (same k) ∙ ap (λ b. q k || b) (any_same p q same ks)

any_swap : (xs ks : List Uid) → list_any (λ u. list_any (same_uid u) ks) xs ≡ list_any (λ k. list_any (same_uid k) xs) ks
any_swap [] ks = sym (any_none ks)
any_swap (x ∷ xs) ks =
    ap (λ b. list_any (same_uid x) ks || b) (any_swap xs ks)
    ∙ ap (λ b. b || list_any (λ k. list_any (same_uid k) xs) ks) (any_same (same_uid x) (λ k. same_uid k x) (λ k. same_uid_equiv.symm x k) ks)
    ∙ sym (any_or (λ k. same_uid k x) (λ k. list_any (same_uid k) xs) ks)

-- it is one of the list that the set has, or one of the set that the list has
pub met : (xs ks : List Uid) (s : UidSet) → set.from_list xs ≡ s → list_any (λ u. list_any (same_uid u) ks) xs ≡ list_any (set.contains s) ks
met xs ks s is = any_swap xs ks ∙ any_same (λ k. list_any (same_uid k) xs) (set.contains s) (λ k. sym (contains-listed xs k) ∙ ap (λ t. set.contains t k) is) ks

-- ---- lengths

filter_shorter : (p : Uid → Bool) (us : List Uid) → length (filter p us) ≤ length us
filter_shorter p [] = omega arith
filter_shorter p (u ∷ us) = by_test (p u) (filter_shorter p us)
  where
    by_test : (b : Bool) → length (filter p us) ≤ length us → length (cond b (u ∷ filter p us) (filter p us)) ≤ length (u ∷ us)
    by_test true h = omega arith
    by_test false h = omega arith

both_fit : (a b c d : ℕ) → a ≡ b + c → c ≤ d → b < 2 ^ 63 → d < 2 ^ 63 → a < 2 ^ 64
both_fit a b c d e h k l = omega arith

pub length-beside : (s : UidSet) (us vs : List Uid) → length us < 2 ^ 63 → length vs < 2 ^ 63 → length (us ++ beside s vs) < 2 ^ 64
length-beside s us vs h k = both_fit (length (us ++ beside s vs)) (length us) (length (beside s vs)) (length vs) (length-append us (beside s vs)) (filter_shorter (λ u. not (set.contains s u)) vs) h k
