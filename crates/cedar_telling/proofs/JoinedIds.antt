-- Sets of ids: what a binary search finds in them, and what is chosen of them; and erring ids, of two lists in turn.
use Rattle.std.proofs.Common.{◌≡◌, ◌≢◌, ◌∙◌, ◌&&◌, T, ℕ, zero, suc, ◌<◌, Bool, true, false, cond, is_some, refl, sym, ap, subst, inl, inr, add-one, arith, List, [], ◌∷◌, ◌++◌, map, length, get_or, Option, Some, None, Ordering, Less, Equal, Greater, Result, Ok, Err}
use Rattle.std.proofs.lemmas.Bool.{cases_lt}
use Rattle.std.proofs.lemmas.Cmp.{tied_itself}
use Rattle.std.proofs.lemmas.List.Sorted.{searchable_from_sorted}
use Rattle.std.proofs.lemmas.Map.Views.{list_any-from_Contains, Contains-from_any, any-filter_same}
use Rattle.std.specs.Cmp.{eq_by_cmp_equiv}
use Rattle.std.specs.FinMap as finite
use Rattle.std.specs.FinMap.{find, is_sorted, entries_sorted}
use Rattle.std.specs.FinMap.Entries.{below_all, is_some-find}
use Rattle.std.specs.List.{AllByRecursion, Contains, filter, list_any}
use Rattle.std.specs.List.Sorted.{IsStrictlySortedBy, IsSortedBy, IsBinarySearchResult, IsSearchInRange}
use Rattle.std.specs.Option.{option_or}
use Rattle.std.specs.Ordering.{is_lt, is_eq, ordering_reverse}
use Rattle.std.specs.Result.{is_ok}
use Rattle.cedar_language.specs.OrderLaws.{text_cmp_total, text_cmp_same}
use Rattle.cedar_language.specs.Uid.{Text}
use Rattle.cedar_language.specs.Value.{Kind}
use Rattle.cedar_world.specs.Answer.{Ids, ids_of, has_id}
use Rattle.cedar_world.specs.Orders.{TextMap, text_cmp, text_eq}
use Rattle.cedar_replies.specs.Erring.{with_kinds, and_kind}
use Rattle.cedar_replies.specs.Kinds.{kind_of}
use Rattle.cedar_replies.specs.declared.error_kind.ErrorKind.{ErrorKind}
use Rattle.cedar_lemmas.proofs.Booleans.{and_turned as and_back}

pub same_text : (x y : Text) → text_eq x y ≡ true → x ≡ y
same_text x y e = text_cmp_same x y (elim (text_cmp x y) as (λ r. is_eq r ≡ true → r ≡ Equal) [ Less ↦ λ h. cc | Equal ↦ λ h. refl | Greater ↦ λ h. cc ] e)

-- ---- the keys of a map rise

first : (a b : Bool) → T (a && b) → T a
first true b p = tt
first false b p = p

second : (a b : Bool) → T (a && b) → T b
second true b p = p
second false b p = absurd p

less : (r : Ordering) → T (is_lt r) → r ≡ Less
less Less p = refl
less Equal p = absurd p
less Greater p = absurd p

all_above : {X : Type 0} (k : Text) (es : List (Text × X)) → T (below_all text_cmp k es) → AllByRecursion (λ y. text_cmp k y ≡ Less) (map (λ e. e.0) es)
all_above k [] h = tt
all_above k (e ∷ es) h = (less _ (first _ _ h), all_above k es (second _ _ h))

rising : {X : Type 0} (es : List (Text × X)) → T (is_sorted text_cmp es) → IsStrictlySortedBy text_cmp (map (λ e. e.0) es)
unfolding IsStrictlySortedBy
rising [] h = tt
rising (e ∷ es) h = (all_above e.0 es (first _ _ h), rising es (second _ _ h))

pub keys_rise : (ids : Ids) → IsStrictlySortedBy text_cmp (finite.keys ids)
keys_rise ids = rising (finite.entries ids) (entries_sorted ids)

-- ---- a binary search

below_next : (xs : List Text) → IsStrictlySortedBy text_cmp xs → (k : ℕ) (d : Text) → suc k < length xs → text_cmp (get_or xs k d) (get_or xs (suc k) d) ≡ Less
unfolding IsStrictlySortedBy
below_next [] h k d l = absurd (omega (arith, l))
below_next (x ∷ []) h k d l = absurd (omega (arith, l))
below_next (x ∷ y ∷ ys) h zero d l = h.0.0
below_next (x ∷ y ∷ ys) h (suc k) d l = below_next (y ∷ ys) h.1 k d (omega (arith, l))

above : (v w : Text) → text_cmp v w ≡ Less → is_lt (text_cmp w v) ≡ false
above v w h = ap is_lt (text_cmp_total.antisymm w v ∙ ap ordering_reverse h)

sorted_by : (xs : List Text) → IsStrictlySortedBy text_cmp xs → IsSortedBy (λ a b. is_lt (text_cmp a b)) xs
sorted_by xs h k d low high = rw add-one (above (get_or xs k d) (get_or xs (suc k) d) (below_next xs h k d (rw add-one at high)))

not_equal : (v w : Text) (o : Ordering) → text_cmp v w ≡ o → o ≢ Equal → v ≡ w → ⊥
not_equal v w o h n e = n (sym h ∙ rw (← e) (tied_itself text_cmp_total v))

less_is_not : Less ≢ Equal
less_is_not e = cc

greater_is_not : Greater ≢ Equal
greater_is_not e = cc

none_found : (b : Bool) → (b ≡ true → ⊥) → false ≡ b
none_found true h = absurd (h refl)
none_found false h = refl

search_finds : (xs : List Text) (v : Text) (r : Result ℕ ℕ) → IsStrictlySortedBy text_cmp xs → IsSearchInRange r (length xs) → IsBinarySearchResult (λ w. text_cmp w v) xs r → is_ok r ≡ list_any (text_eq v) xs
search_finds xs v (Ok i) h range at = sym (list_any-from_Contains (eq_by_cmp_equiv text_cmp_total) v xs (i, range, text_cmp_same (get_or xs i v) v (at v)))
search_finds xs v (Err i) h range parted = none_found (list_any (text_eq v) xs) (λ t.
    let m : Contains xs v = Contains-from_any same_text v xs t in
    let parts = parted (searchable_from_sorted text_cmp_total (λ w. w) xs v (sorted_by xs h)) in
    absurd (elim (cases_lt m.0 i) [
      | inl l ↦ not_equal (get_or xs m.0 v) v Less (parts.0 m.0 v (omega arith) l) less_is_not m.2
      | inr g ↦ not_equal (get_or xs m.0 v) v Greater (parts.1 m.0 v g m.1) greater_is_not m.2
    ]))

pub found : (ids : Ids) (xs : List Text) (v : Text) (r : Result ℕ ℕ) → xs ≡ finite.keys ids → IsSearchInRange r (length xs) → IsBinarySearchResult (λ w. text_cmp w v) xs r → is_ok r ≡ has_id ids v
found ids xs v r is range at =
    search_finds xs v r (subst (IsStrictlySortedBy text_cmp) (sym is) (keys_rise ids)) range at
    ∙ ap (list_any (text_eq v)) is ∙ sym (finite.contains_key-keys ids v)

-- ---- what is chosen of a set

paired_keys : (xs : List Text) → map (λ (e : Text × Unit {0}). e.0) (map (λ id. (id, tt)) xs) ≡ xs
paired_keys [] = refl
paired_keys (x ∷ xs) = ap (λ l. x ∷ l) (paired_keys xs)

is_listed : (xs : List Text) (q : Text) → has_id (ids_of xs) q ≡ list_any (text_eq q) xs
is_listed xs q =
    ap is_some (finite.get-from_entries text_cmp_total (map (λ id. (id, tt)) xs) q)
    ∙ is_some-find text_cmp q (map (λ id. (id, tt)) xs)
    ∙ ap (list_any (text_eq q)) (paired_keys xs)

pub chosen : (ids : Ids) (test : Text → Bool) (xs : List Text) → xs ≡ filter test (finite.keys ids) → (q : Text) → has_id (ids_of xs) q ≡ (has_id ids q && test q)
chosen ids test xs is q =
    ap (λ l. has_id (ids_of l) q) is
    ∙ is_listed (filter test (finite.keys ids)) q
    ∙ any-filter_same (text_eq q) test (test q) (λ k t. ap test (sym (same_text q k t))) (finite.keys ids)
    ∙ and_back (test q) (list_any (text_eq q) (finite.keys ids))
    ∙ ap (λ b. b && test q) (sym (finite.contains_key-keys ids q))

-- ---- what errs

and_kind_append : (id : Text) (k : Option Kind) (xs ys : List (Text × Kind)) → and_kind id k (xs ++ ys) ≡ and_kind id k xs ++ ys
and_kind_append id None xs ys = refl
and_kind_append id (Some k) xs ys = refl

with_kinds_append : (es fs : List (Text × ErrorKind)) → with_kinds (es ++ fs) ≡ with_kinds es ++ with_kinds fs
with_kinds_append [] fs = refl
with_kinds_append (e ∷ es) fs = ap (and_kind e.0 (kind_of e.1)) (with_kinds_append es fs) ∙ and_kind_append e.0 (kind_of e.1) (with_kinds es) (with_kinds fs)

find_append : (q : Text) (xs ys : List (Text × Kind)) → find text_cmp q (xs ++ ys) ≡ option_or (find text_cmp q xs) (find text_cmp q ys)
find_append q [] ys = refl
find_append q (x ∷ xs) ys =
    elim (text_eq q x.0) as (λ b. cond b (Some x.1) (find text_cmp q (xs ++ ys)) ≡ option_or (cond b (Some x.1) (find text_cmp q xs)) (find text_cmp q ys)) [ true ↦ refl | false ↦ find_append q xs ys ]

pub first_kept : (last new all : TextMap Kind) (es fs gs : List (Text × ErrorKind)) → with_kinds es ≡ finite.entries last → with_kinds fs ≡ finite.entries new → gs ≡ es ++ fs → all ≡ finite.from_entries (with_kinds gs)
    → (q : Text) → finite.get all q ≡ option_or (finite.get last q) (finite.get new q)
first_kept last new all es fs gs is_last is_new is_both is q =
    ap (λ (m : TextMap Kind). finite.get m q) is
    ∙ finite.get-from_entries text_cmp_total (with_kinds gs) q
    ∙ ap (λ l. find text_cmp q (with_kinds l)) is_both
    ∙ ap (find text_cmp q) (with_kinds_append es fs)
    ∙ find_append q (with_kinds es) (with_kinds fs)
    ∙ (λ i. option_or (find text_cmp q (is_last i)) (find text_cmp q (is_new i)))
    ∙ sym (λ i. option_or (finite.get-entries last q i) (finite.get-entries new q i))
