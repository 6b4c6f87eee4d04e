-- Lists in the order of their ids, and the sets and maps that they are.
use Rattle.std.proofs.Common.{◌≡◌, ◌&&◌, Bool, true, false, cond, ◌||◌, T, List, [], ◌∷◌, map, Option, Some, None, refl, sym, ap, subst, ◌∙◌}
use Rattle.std.specs.declared.cmp.Ordering.TheVariants.{Less, Equal, Greater}
use Rattle.std.specs.Ordering.{is_lt, is_eq}
use Rattle.std.specs.Cmp.{IsTotalOrder, eq_by_cmp_equiv}
use Rattle.std.specs.List.{list_any, dedup, AllByRecursion}
use Rattle.std.specs.List.Sorted.{IsStrictlySortedBy, IsSorted, IsPermutation}
use Rattle.std.specs.Cmp.Lexicographic.{texts_ties}
use Rattle.std.specs.FinMap as finite
use Rattle.std.specs.FinMap.{IsAntisymmetric, find, is_sorted, nat_cmp-IsAntisymmetric, slice_cmp-IsAntisymmetric}
use Rattle.std.specs.FinMap.Entries.{below_all}
use Rattle.std.proofs.lemmas.Cmp.{nat_list_cmp_total, nat_list_eq_equiv}
use Rattle.std.proofs.lemmas.List.Kept.{IsStrictlySortedBy-dedup, Contains-dedup, Contains-from_dedup}
use Rattle.std.proofs.lemmas.List.Sorted.{list_any-IsPermutation}
use Rattle.std.proofs.lemmas.Map.Views.{Contains-from_any, list_any-from_Contains}
use Rattle.cedar_language.specs.Uid.{Text}
use Rattle.cedar_language.specs.Order.{same_text}
use Rattle.cedar_world.specs.Orders.{text_cmp, text_eq}
use Rattle.cedar_world.specs.Answer.{ids_of}
use Rattle.cedar_lemmas.proofs.Booleans.{same_both as agree}

pub text_total : IsTotalOrder text_cmp
text_total = nat_list_cmp_total

pub text_same : IsAntisymmetric text_cmp
text_same = slice_cmp-IsAntisymmetric nat_cmp-IsAntisymmetric

-- ---- entries that rise are the entries of their map

both : (a b : Bool) → T a → T b → T (a && b)
both true b p q = q
both false b p q = p

below : {X : Type 0} (k : Text) (es : List (Text × X)) → AllByRecursion (λ y. text_cmp k y ≡ Less) (map (λ e. e.0) es) → T (below_all text_cmp k es)
below k [] h = tt
below k (e ∷ es) h = both _ _ (subst (λ r. T (is_lt r)) (sym h.0) tt) (below k es h.1)

pub rises : {X : Type 0} (es : List (Text × X)) → IsStrictlySortedBy text_cmp (map (λ e. e.0) es) → T (is_sorted text_cmp es)
unfolding IsStrictlySortedBy
rises [] h = tt
rises (e ∷ es) h = both _ _ (below e.0 es h.0) (rises es h.1)

pub entries_of : {X : Type 0} (es : List (Text × X)) → IsStrictlySortedBy text_cmp (map (λ e. e.0) es) → finite.entries (finite.from_entries {R = text_cmp} es) ≡ es
entries_of es h =
    let sorted = rises es h in
    ap finite.entries (finite.same_map text_total text_same (finite.from_entries es) (finite.from_sorted es)
    (λ q. finite.get-from_entries text_total es q ∙ sym (finite.get-from_sorted text_cmp es q sorted)))
    ∙ finite.entries-from_sorted text_cmp es sorted

-- ---- sets of ids

-- each with nothing besides, as a set keeps it
abbrev paired : List Text → List (Text × Unit {0})
paired ids = map (λ id. (id, tt)) ids

keys_paired : (ids : List Text) → map (λ (e : Text × Unit {0}). e.0) (paired ids) ≡ ids
keys_paired [] = refl
keys_paired (id ∷ ids) = ap (λ l. id ∷ l) (keys_paired ids)

pub ids_listed : (ids : List Text) → IsStrictlySortedBy text_cmp ids → finite.keys (ids_of ids) ≡ ids
ids_listed ids h = ap (map (λ e. e.0)) (entries_of (paired ids) (subst (IsStrictlySortedBy text_cmp) (sym (keys_paired ids)) h)) ∙ keys_paired ids

abbrev found : Bool → Option (Unit {0})
found true = Some tt
found false = None

find_id : (q : Text) (ids : List Text) → find text_cmp q (paired ids) ≡ found (list_any (text_eq q) ids)
find_id q [] = refl
find_id q (id ∷ ids) = elim (text_eq q id) as (λ b. cond b (Some tt) (find text_cmp q (paired ids)) ≡ found (b || list_any (text_eq q) ids)) [ true ↦ refl | false ↦ find_id q ids ]

same_ids : (xs ys : List Text) → ((q : Text) → list_any (text_eq q) xs ≡ list_any (text_eq q) ys) → ids_of xs ≡ ids_of ys
same_ids xs ys same = finite.same_map text_total text_same (ids_of xs) (ids_of ys)
    (λ q. finite.get-from_entries text_total _ q ∙ find_id q xs ∙ ap found (same q) ∙ sym (find_id q ys) ∙ sym (finite.get-from_entries text_total _ q))

tells : (x y : Text) → text_eq x y ≡ true → x ≡ y
tells x y e = text_same x y (elim (text_cmp x y) as (λ r. is_eq r ≡ true → r ≡ Equal) [ Less ↦ λ h. cc | Equal ↦ λ h. refl | Greater ↦ λ h. cc ] e)

pub same_tells : (x y : Text) → same_text x y ≡ true → x ≡ y
same_tells x y e = tells x y (sym (texts_ties x y) ∙ e)

same_after_dedup : (ids : List Text) (q : Text) → list_any (text_eq q) (dedup same_text ids) ≡ list_any (text_eq q) ids
same_after_dedup ids q =
    let equiv = eq_by_cmp_equiv text_total in
    agree _ _
    (λ h. list_any-from_Contains equiv q ids (Contains-from_dedup same_text ids q (Contains-from_any tells q _ h)))
    (λ h. list_any-from_Contains equiv q _ (Contains-dedup nat_list_eq_equiv same_tells ids q (Contains-from_any tells q ids h)))

-- another order leaves the same set
pub moved_ids : (ids moved : List Text) → IsPermutation ids moved → ids_of moved ≡ ids_of ids
moved_ids ids moved h = same_ids _ _ (λ q. sym (list_any-IsPermutation (text_eq q) ids moved h))

-- a sort and a `dedup` leave the same set, in order
pub sorted_ids : (ids sorted : List Text) → IsPermutation ids sorted → ids_of (dedup same_text sorted) ≡ ids_of ids
sorted_ids ids sorted moved = same_ids _ _ (λ q. same_after_dedup sorted q ∙ sym (list_any-IsPermutation (text_eq q) ids sorted moved))

pub ids_rise : (sorted : List Text) → IsSorted text_cmp sorted → IsStrictlySortedBy text_cmp (dedup same_text sorted)
ids_rise sorted up = IsStrictlySortedBy-dedup text_total texts_ties sorted up
