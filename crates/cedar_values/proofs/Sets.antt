-- Sets: what a sort and a `dedup` make of values, and what a binary search finds among them.
use Rattle.std.proofs.Common.{◌≡◌, ◌≢◌, ◌↔◌, ◌||◌, ◌&&◌, ℕ, zero, suc, ◌<◌, List, [], ◌∷◌, length, get_or, Bool, true, false, not, IsTrue, Ordering}
use Rattle.std.proofs.Common.{Less, Equal, Greater, refl, sym, ap, ◌∙◌, inl, inr, add-one, arith, Result, Ok, Err}
use Rattle.std.proofs.lemmas.Bool.{cases_lt}
use Rattle.std.proofs.lemmas.Cmp.{tied_itself}
use Rattle.std.proofs.lemmas.List.Filters.{dedup_is}
use Rattle.std.proofs.lemmas.List.Elements.{All-contains, Contains-get_or}
use Rattle.std.proofs.lemmas.List.Folds.{list_any_at, list_any_none}
use Rattle.std.proofs.lemmas.List.Kept.{IsStrictlySortedBy-dedup, Contains-dedup, Contains-from_dedup}
use Rattle.std.proofs.lemmas.List.Sorted.{Contains-permutation, IsPermutation-sym, searchable_from_sorted}
use Rattle.std.proofs.lemmas.List.Sums.{AllPass-from_list_all, list_all-from_AllPass}
use Rattle.std.proofs.lemmas.Map.Views.{list_any-from_Contains, Contains-from_any}
use Rattle.std.specs.Cmp.{eq_by_cmp_equiv}
use Rattle.std.specs.List.{AllAdjacentBelow, AllByRecursion, Contains, list_any, list_all}
use Rattle.std.specs.List.Retain.{IsFiltered, DiffersFromLast}
use Rattle.std.specs.List.Sorted.{IsStrictlySortedBy, IsSorted, IsPermutation, IsSortedBy, IsBinarySearchResult, IsSearchInRange}
use Rattle.std.specs.Ordering.{eq_by_cmp, is_lt, ordering_reverse}
use Rattle.std.specs.Result.{is_ok}
use Rattle.cedar_language.specs.Value.{Value, Values}
use Rattle.cedar_language.specs.Order.{value_cmp, same, all_of, members, rising}
use Rattle.cedar_language.specs.OrderLaws.{value_cmp_total, value_cmp_same, same_is, is_same}
use Rattle.cedar_language.specs.Operators.{has_member, has_all, has_some}
use Rattle.cedar_language.specs.Sets.{SetsAreFinite}

-- ---- a set that is made

pub is_sorted : (xs ys : List Value) → IsSorted value_cmp xs → IsFiltered (DiffersFromLast (eq_by_cmp value_cmp)) [] xs ys → IsStrictlySortedBy value_cmp ys
is_sorted xs ys s f = rw (dedup_is (eq_by_cmp value_cmp) xs ys f) (IsStrictlySortedBy-dedup value_cmp_total (λ x y. refl) xs s)

pub has_members : (vs xs ys : List Value) → IsPermutation vs xs → IsFiltered (DiffersFromLast (eq_by_cmp value_cmp)) [] xs ys → (v : Value)
    → Contains ys v ↔ Contains vs v
has_members vs xs ys p f v =
    let e = dedup_is (eq_by_cmp value_cmp) xs ys f in (
      λ h. Contains-permutation xs vs v (IsPermutation-sym vs xs p) (Contains-from_dedup (eq_by_cmp value_cmp) xs v (rw e at h)),
      λ h. rw e (Contains-dedup (eq_by_cmp_equiv value_cmp_total) (λ x y t. same_is x y t) xs v (Contains-permutation vs xs v p h)),
    )

-- what is below the first of values that rise is below all of them
below_all : (v : Value) (ws : List Value) → ((d : Value) → 0 < length ws → value_cmp v (get_or ws 0 d) ≡ Less) → IsStrictlySortedBy value_cmp ws
    → AllByRecursion (λ w. value_cmp v w ≡ Less) ws
unfolding IsStrictlySortedBy
below_all v [] h s = tt
below_all v (w ∷ ws) h s = (h w (omega arith), beyond ws s.0)
  where
    beyond : (us : List Value) → AllByRecursion (λ u. value_cmp w u ≡ Less) us → AllByRecursion (λ u. value_cmp v u ≡ Less) us
    beyond [] a = tt
    beyond (u ∷ us) a = (value_cmp_total.trans v w u (h w (omega arith)) a.0, beyond us a.1)

-- values of which each is below the next rise
pub rises : (vs : List Value) → AllAdjacentBelow (λ v w. value_cmp v w ≡ Less) vs (length vs) → IsStrictlySortedBy value_cmp vs
unfolding IsStrictlySortedBy
rises [] h = tt
rises (v ∷ vs) h =
    let rest = rises vs (λ k d l. rw add-one (rw add-one at (h (suc k) d (omega (arith, l))))) in
    (below_all v vs (λ d l. h 0 d (omega (arith, l))) rest, rest)

-- of values that rise each is below the next
pub below_after : (vs : List Value) → IsStrictlySortedBy value_cmp vs → (i : ℕ) (v w : Value) → suc i < length vs → v ≡ get_or vs i v
    → w ≡ get_or vs (suc i) w → value_cmp v w ≡ Less
unfolding IsStrictlySortedBy
below_after [] h i v w l is also = absurd (omega (arith, l))
below_after (x ∷ []) h i v w l is also = absurd (omega (arith, l))
below_after (x ∷ y ∷ ys) h zero v w l is also = ap (λ u. value_cmp u w) is ∙ ap (value_cmp x) also ∙ h.0.0
below_after (x ∷ y ∷ ys) h (suc i) v w l is also = below_after (y ∷ ys) h.1 i v w (omega (arith, l)) is also

-- ---- members, as the language has them

any_is : (vs : List Value) (v : Value) → has_member (all_of vs) v ≡ list_any (λ w. same w v) vs
any_is [] v = refl
any_is (w ∷ vs) v = ap (λ b. same w v || b) (any_is vs v)

same_back : (v w : Value) (b : Bool) → same v w ≡ b → same w v ≡ b
same_back v w true h = is_same w v (sym (same_is v w h))
same_back v w false h = elim (same w v) as (λ b. same w v ≡ b → b ≡ false) [
  | true ↦ λ k. sym (is_same v w (sym (same_is w v k))) ∙ h
  | false ↦ λ k. refl
] refl

turned : (vs : List Value) (v : Value) → list_any (λ w. same w v) vs ≡ list_any (same v) vs
turned [] v = refl
turned (w ∷ vs) v = rw (same_back v w (same v w) refl, turned vs v) refl

pub member_is : (vs : List Value) (v : Value) → IsTrue (has_member (all_of vs) v) ↔ Contains vs v
member_is vs v = (
  λ h. Contains-from_any (λ x y t. same_is x y t) v vs (sym (any_is vs v ∙ turned vs v) ∙ h),
  λ h. (any_is vs v ∙ turned vs v) ∙ list_any-from_Contains (eq_by_cmp_equiv value_cmp_total) v vs h,
)

same_truth : (a b : Bool) → (IsTrue a → IsTrue b) → (IsTrue b → IsTrue a) → a ≡ b
same_truth true b f g = sym (f refl)
same_truth false true f g = g refl
same_truth false false f g = refl

-- a test that tells members is the language's
pub member_test : (vs : List Value) (v : Value) (b : Bool) → IsTrue b ↔ Contains vs v → b ≡ has_member (all_of vs) v
member_test vs v b f = same_truth b (has_member (all_of vs) v) (λ t. (member_is vs v).1 (f.0 t)) (λ t. f.1 ((member_is vs v).0 t))

pub members_of : (vs : List Value) → members (all_of vs) ≡ vs
members_of [] = refl
members_of (v ∷ vs) = ap (λ ws. v ∷ ws) (members_of vs)

-- a strictly rising list of the same members is the language's set of these values
pub is_rising : SetsAreFinite → (s vs : List Value) → IsStrictlySortedBy value_cmp s → ((v : Value) → Contains s v ↔ Contains vs v)
    → all_of s ≡ rising (all_of vs)
is_rising law s vs h f =
    law.by_members (all_of s) (rising (all_of vs)) (rw (members_of s) h) (law.rises (all_of vs))
    (λ v.
    same_truth (has_member (all_of s) v) (has_member (all_of vs) v)
    (λ t. (member_is vs v).1 ((f v).0 ((member_is s v).0 t)))
    (λ t. (member_is s v).1 ((f v).1 ((member_is vs v).0 t)))
    ∙ sym (law.members (all_of vs) v))

-- ---- subsets and disjoint sets

pub all_is : (ws : Values) (vs : List Value) → has_all ws (all_of vs) ≡ list_all (has_member ws) vs
all_is ws [] = refl
all_is ws (v ∷ vs) = ap (λ b. has_member ws v && b) (all_is ws vs)

pub some_is : (ws : Values) (vs : List Value) → has_some ws (all_of vs) ≡ list_any (has_member ws) vs
some_is ws [] = refl
some_is ws (v ∷ vs) = ap (λ b. has_member ws v || b) (some_is ws vs)

pub subset_is : (vs ws : List Value) → IsTrue (has_all (all_of ws) (all_of vs)) ↔ ((v : Value) → Contains vs v → Contains ws v)
subset_is vs ws = (
  λ h v m. (member_is ws v).0 (All-contains (λ x. has_member (all_of ws) x ≡ true) vs v
      (AllPass-from_list_all (has_member (all_of ws)) vs (sym (all_is (all_of ws) vs) ∙ h)) m),
  λ f. all_is (all_of ws) vs ∙ list_all-from_AllPass (has_member (all_of ws)) vs
      (λ k d l. (member_is ws (get_or vs k d)).1 (f (get_or vs k d) (Contains-get_or vs k d l))),
)

not_true : (b : Bool) → not b ≡ true → b ≡ true → ⊥
not_true true h k = absurd (cc)
not_true false h k = absurd (cc)

pub not_false : (b : Bool) → (b ≡ true → ⊥) → b ≡ false
not_false true h = absurd (h refl)
not_false false h = refl

pub disjoint_is : (vs ws : List Value) → IsTrue (not (has_some (all_of ws) (all_of vs))) ↔ ((v : Value) → Contains vs v → Contains ws v → ⊥)
disjoint_is vs ws = (
  λ h v m n.
      let there : has_member (all_of ws) (get_or vs m.0 v) ≡ true = rw m.2 ((member_is ws v).1 n) in
      not_true (has_some (all_of ws) (all_of vs)) h (some_is (all_of ws) vs ∙ list_any_at (has_member (all_of ws)) vs m.0 v m.1 there),
  λ f.
      let none : list_any (has_member (all_of ws)) vs ≡ false =
      list_any_none (has_member (all_of ws)) vs
      (λ k d l. not_false (has_member (all_of ws) (get_or vs k d))
      (λ t. f (get_or vs k d) (Contains-get_or vs k d l) ((member_is ws (get_or vs k d)).0 t))) in
      ap not (some_is (all_of ws) vs ∙ none),
)

pub no_test : (vs : List Value) (v : Value) → (Contains vs v → ⊥) → has_member (all_of vs) v ≡ false
no_test vs v f = not_false (has_member (all_of vs) v) (λ t. f ((member_is vs v).0 t))

-- ---- what a binary search finds

below_next : (vs : List Value) → IsStrictlySortedBy value_cmp vs → (k : ℕ) (d : Value) → suc k < length vs
    → value_cmp (get_or vs k d) (get_or vs (suc k) d) ≡ Less
unfolding IsStrictlySortedBy
below_next [] h k d l = absurd (omega (arith, l))
below_next (x ∷ []) h k d l = absurd (omega (arith, l))
below_next (x ∷ y ∷ ys) h zero d l = h.0.0
below_next (x ∷ y ∷ ys) h (suc k) d l = below_next (y ∷ ys) h.1 k d (omega (arith, l))

above : (v w : Value) → value_cmp v w ≡ Less → is_lt (value_cmp w v) ≡ false
above v w h = ap is_lt (value_cmp_total.antisymm w v ∙ ap ordering_reverse h)

sorted_by : (vs : List Value) → IsStrictlySortedBy value_cmp vs → IsSortedBy (λ a b. is_lt (value_cmp a b)) vs
sorted_by vs h k d low high = rw add-one (above (get_or vs k d) (get_or vs (suc k) d) (below_next vs h k d (rw add-one at high)))

not_equal : (v w : Value) (o : Ordering) → value_cmp v w ≡ o → o ≢ Equal → v ≡ w → ⊥
not_equal v w o h n e = n (sym h ∙ rw (← e) (tied_itself value_cmp_total v))

less_is_not : Less ≢ Equal
less_is_not e = cc

greater_is_not : Greater ≢ Equal
greater_is_not e = cc

pub found : (vs : List Value) (v : Value) (r : Result ℕ ℕ) → IsStrictlySortedBy value_cmp vs → IsSearchInRange r (length vs)
    → IsBinarySearchResult (λ w. value_cmp w v) vs r → IsTrue (is_ok r) ↔ Contains vs v
found vs v (Ok i) h range at = (λ _. (i, range, value_cmp_same (get_or vs i v) v (at v)), λ _. refl)
found vs v (Err i) h range parted = (
  λ t. absurd (cc),
  λ m.
      let parts = parted (searchable_from_sorted value_cmp_total (λ w. w) vs v (sorted_by vs h)) in
      absurd (elim (cases_lt m.0 i) [
        | inl l ↦ not_equal (get_or vs m.0 v) v Less (parts.0 m.0 v (omega arith) l) less_is_not m.2
        | inr g ↦ not_equal (get_or vs m.0 v) v Greater (parts.1 m.0 v g m.1) greater_is_not m.2
      ]),
)
