-- What a stable sort by ids and a `dedup` leave of entries: the same map, in order.
use Rattle.std.proofs.Common.{◌≡◌, Bool, true, false, ◌&&◌, not, cond, List, [], ◌∷◌, map, is_some, Option, Some, None, refl, sym, ap, ◌∙◌}
use Rattle.std.specs.declared.cmp.Ordering.TheVariants.{Less, Equal, Greater}
use Rattle.std.specs.Ordering.{on, is_lt, is_eq, ordering_reverse}
use Rattle.cedar_world.specs.Bodies.{and_then}
use Rattle.std.specs.List.{filter, dedup, dedup_from, AllByRecursion}
use Rattle.std.specs.List.Sorted.{IsPermutation, IsSortedBy, IsStableBy, IsStrictlySortedBy, ties}
use Rattle.std.specs.Cmp.Lexicographic.{texts_ties}
use Rattle.std.specs.FinMap as finite
use Rattle.std.specs.FinMap.{find}
use Rattle.std.proofs.lemmas.Cmp.{on_total}
use Rattle.std.proofs.lemmas.List.Filters.{All-dedup}
use Rattle.std.proofs.lemmas.List.Kept.{IsStrictlySortedBy-dedup}
use Rattle.std.proofs.lemmas.List.Sorted.{All-permutation}
use Rattle.std.proofs.lemmas.List.Sums.{AllPass-from_list_all, list_all-from_AllPass}
use Rattle.cedar_language.specs.Uid.{Text}
use Rattle.cedar_language.specs.Value.{Kind}
use Rattle.cedar_language.specs.Order.{same_text}
use Rattle.cedar_world.specs.Orders.{text_cmp, text_eq}
use Rattle.cedar_replies.specs.declared.error_kind.ErrorKind.{ErrorKind}
use Rattle.cedar_replies.specs.declared.error_kind.ErrorKind.TheVariants.{Memory}
use Rattle.cedar_replies.specs.Kinds.{kind_of}
use Rattle.cedar_replies.specs.Erring.{has_kind, have_kinds, with_kinds, and_kind}
use Rattle.cedar_replies.proofs.Sets.{text_total, text_same, same_tells}

abbrev pub Entry : Type 0
Entry = Text × ErrorKind

-- the id of one is below that of the other; both have one id
abbrev pub is_below : Entry → Entry → Bool
is_below a b = is_lt (text_cmp a.0 b.0)

abbrev pub same_id : Entry → Entry → Bool
same_id a b = same_text a.0 b.0

-- ---- a stable sort

ties_is : (q : Text) (k : ErrorKind) (e : Entry) → ties is_below (q, k) e ≡ text_eq q e.0
ties_is q k e =
    ap (λ r. not (is_lt (text_cmp q e.0)) && not (is_lt r)) (text_total.antisymm e.0 q)
    ∙ elim (text_cmp q e.0) as (λ r. (not (is_lt r) && not (is_lt (ordering_reverse r))) ≡ is_eq r) [ Less ↦ refl | Equal ↦ refl | Greater ↦ refl ]

abbrev first_kind : List Entry → Option ErrorKind
first_kind [] = None
first_kind (e ∷ es) = Some e.1

find_tied : (q : Text) (k : ErrorKind) (es : List Entry) → find text_cmp q es ≡ first_kind (filter (ties is_below (q, k)) es)
find_tied q k [] = refl
find_tied q k (e ∷ es) =
    let others = filter (ties is_below (q, k)) es in
    elim (text_eq q e.0) as (λ b. cond b (Some e.1) (find text_cmp q es) ≡ first_kind (cond b (e ∷ others) others)) [ true ↦ refl | false ↦ find_tied q k es ]
    ∙ sym (ap (λ b. first_kind (cond b (e ∷ others) others)) (ties_is q k e))

find_sorted : (es sorted : List Entry) → IsStableBy is_below es sorted → (q : Text) → find text_cmp q sorted ≡ find text_cmp q es
find_sorted es sorted stable q = find_tied q Memory sorted ∙ ap first_kind (stable (q, Memory)) ∙ sym (find_tied q Memory es)

-- ---- a `dedup`

hidden : (b : Bool) (x y z : Option ErrorKind) → cond b x z ≡ cond b x (cond b y z)
hidden true x y z = refl
hidden false x y z = refl

find_without : (q : Text) (k x : Entry) (xs : List Entry) → x.0 ≡ k.0 → find text_cmp q (k ∷ xs) ≡ find text_cmp q (k ∷ x ∷ xs)
find_without q k x xs same = hidden (text_eq q k.0) (Some k.1) (Some x.1) (find text_cmp q xs) ∙ ap (λ id. cond (text_eq q k.0) (Some k.1) (cond (text_eq q id) (Some x.1) (find text_cmp q xs))) (sym same)

find_dedup_from : (q : Text) (k : Entry) (xs : List Entry) → find text_cmp q (dedup_from same_id k xs) ≡ find text_cmp q (k ∷ xs)
find_dedup_from q k [] = refl
find_dedup_from q k (x ∷ xs) =
    elim (same_id x k) as (λ b. same_id x k ≡ b → find text_cmp q (cond b (dedup_from same_id k xs) (k ∷ dedup_from same_id x xs)) ≡ find text_cmp q (k ∷ x ∷ xs)) [
      | true ↦ λ t. find_dedup_from q k xs ∙ find_without q k x xs (same_tells x.0 k.0 t)
      | false ↦ λ t. ap (cond (text_eq q k.0) (Some k.1)) (find_dedup_from q x xs)
    ] refl

find_dedup : (q : Text) (es : List Entry) → find text_cmp q (dedup same_id es) ≡ find text_cmp q es
find_dedup q [] = refl
find_dedup q (e ∷ es) = find_dedup_from q e es

-- ---- kinds

kind_found : (q id : Text) (k : ErrorKind) (o : Option Kind) (b : Bool) (rest : List (Text × Kind)) (es : List Entry) → kind_of k ≡ o → (is_some o && b) ≡ true
    → (b ≡ true → find text_cmp q rest ≡ and_then (find text_cmp q es) kind_of) → find text_cmp q (and_kind id o rest) ≡ and_then (cond (text_eq q id) (Some k) (find text_cmp q es)) kind_of
kind_found q id k None b rest es is h f = cc
kind_found q id k (Some kind) b rest es is h f =
    elim (text_eq q id) as (λ c. cond c (Some kind) (find text_cmp q rest) ≡ and_then (cond c (Some k) (find text_cmp q es)) kind_of) [ true ↦ sym is | false ↦ f h ]

find_kind : (q : Text) (es : List Entry) → have_kinds es ≡ true → find text_cmp q (with_kinds es) ≡ and_then (find text_cmp q es) kind_of
find_kind q [] h = refl
find_kind q (e ∷ es) h = kind_found q e.0 e.1 (kind_of e.1) (have_kinds es) (with_kinds es) es refl h (find_kind q es)

-- ---- both

pub kinds_kept : (es sorted : List Entry) → IsPermutation es sorted → have_kinds es ≡ true → have_kinds (dedup same_id sorted) ≡ true
kinds_kept es sorted moved h = list_all-from_AllPass has_kind _ (All-dedup same_id (λ e. has_kind e ≡ true) sorted (All-permutation (λ e. has_kind e ≡ true) es sorted moved (AllPass-from_list_all has_kind es h)))

pub same_entries : (es sorted : List Entry) → IsPermutation es sorted → IsStableBy is_below es sorted → have_kinds es ≡ true
    → finite.from_entries {R = text_cmp} (with_kinds (dedup same_id sorted)) ≡ finite.from_entries (with_kinds es)
same_entries es sorted moved stable h =
    finite.same_map text_total text_same _ _ (λ q.
    finite.get-from_entries text_total _ q
    ∙ find_kind q (dedup same_id sorted) (kinds_kept es sorted moved h)
    ∙ ap (λ o. and_then o kind_of) (find_dedup q sorted ∙ find_sorted es sorted stable q)
    ∙ sym (find_kind q es h)
    ∙ sym (finite.get-from_entries text_total _ q))

ids_below : (k : Text) (es : List Entry) → AllByRecursion (λ (e : Entry). text_cmp k e.0 ≡ Less) es → AllByRecursion (λ id. text_cmp k id ≡ Less) (map (λ (e : Entry). e.0) es)
ids_below k [] h = tt
ids_below k (e ∷ es) h = (h.0, ids_below k es h.1)

ids_strict : (es : List Entry) → IsStrictlySortedBy (on (λ (e : Entry). e.0) text_cmp) es → IsStrictlySortedBy text_cmp (map (λ (e : Entry). e.0) es)
unfolding IsStrictlySortedBy
ids_strict [] h = tt
ids_strict (e ∷ es) h = (ids_below e.0 es h.0, ids_strict es h.1)

pub entries_rise : (sorted : List Entry) → IsSortedBy is_below sorted → IsStrictlySortedBy text_cmp (map (λ (e : Entry). e.0) (dedup same_id sorted))
entries_rise sorted up = ids_strict _ (IsStrictlySortedBy-dedup (on_total (λ (e : Entry). e.0) text_total) (λ x y. texts_ties x.0 y.0) sorted up)
