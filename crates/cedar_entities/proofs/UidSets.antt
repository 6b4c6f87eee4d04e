-- Sets of uids: what they hold, and when two are one.
use Rattle.std.proofs.Common.{◌≡◌, Bool, true, false, ◌||◌, ◌&&◌, not, List, [], ◌∷◌, ◌++◌, refl, sym, ap, ◌∙◌, true≢false, filter}
use Rattle.std.specs.declared.cmp.Ordering.{Ordering}
use Rattle.std.specs.declared.cmp.Ordering.TheVariants.{Less, Equal, Greater}
use Rattle.std.specs.Ordering.{is_eq, eq_by_cmp, ordering_then}
use Rattle.std.specs.FinMap.{IsAntisymmetric}
use Rattle.std.specs.FinSet as set
use Rattle.std.specs.List.{list_any}
use Rattle.std.specs.Set.{is_member}
use Rattle.std.proofs.lemmas.List.Folds.{list_any-append}
use Rattle.std.proofs.lemmas.Map.Views.{any-filter_same}
use Rattle.cedar_language.specs.Uid.{Uid}
use Rattle.cedar_language.specs.Order.{text_cmp, name_cmp, uid_cmp, same_uid}
use Rattle.cedar_language.specs.OrderLaws.{text_cmp_same, name_cmp_same}
use Rattle.cedar_literals.specs.Laws.{uid_cmp_total, uid_cmp_ties}
use Rattle.cedar_entities.specs.Lists.{UidSet, beside}
use Rattle.cedar_lemmas.proofs.Booleans.{and_turned as turned, or_first as left_false, or_second as right_false}

first_equal : (r s : Ordering) → ordering_then r s ≡ Equal → r ≡ Equal
first_equal Equal s e = refl
first_equal Less s e = e
first_equal Greater s e = e

second_equal : (r s : Ordering) → ordering_then r s ≡ Equal → s ≡ Equal
second_equal Equal s e = e
second_equal Less s e = absurd (true≢false (sym (ap is_eq e)))
second_equal Greater s e = absurd (true≢false (sym (ap is_eq e)))

-- uids that tie are one
pub uid_cmp_same : IsAntisymmetric uid_cmp
uid_cmp_same u v e =
    let types = name_cmp_same u.type_name v.type_name (first_equal (name_cmp u.type_name v.type_name) (text_cmp u.id v.id) e) in
    let ids = text_cmp_same u.id v.id (second_equal (name_cmp u.type_name v.type_name) (text_cmp u.id v.id) e) in
    λ i. record { type_name = types i; id = ids i }

pub list_any-ties : (q : Uid) (us : List Uid) → list_any (eq_by_cmp uid_cmp q) us ≡ list_any (same_uid q) us
list_any-ties q [] = refl
list_any-ties q (u ∷ us) = ap (λ b. b || list_any (eq_by_cmp uid_cmp q) us) (sym (uid_cmp_ties q u)) ∙ ap (λ b. same_uid q u || b) (list_any-ties q us)

-- what a set of listed uids holds
pub contains-listed : (us : List Uid) (q : Uid) → set.contains (set.from_list {R = uid_cmp} us) q ≡ list_any (same_uid q) us
contains-listed us q = set.contains-from_list uid_cmp_total us q ∙ list_any-ties q us

pub contains-items : (s : UidSet) (q : Uid) → set.contains s q ≡ is_member same_uid (set.items s) q
contains-items s q = set.contains-items s q ∙ list_any-ties q (set.items s)

pub same_uids : (s t : UidSet) → ((q : Uid) → set.contains s q ≡ set.contains t q) → s ≡ t
same_uids = set.same_set uid_cmp_total uid_cmp_same

pub contains-both : (s t : UidSet) (q : Uid) → set.contains (set.union s t) q ≡ (set.contains s q || set.contains t q)
contains-both = set.contains-union uid_cmp_total

-- uids that are equal by the test are one
pub uid_is : (u v : Uid) → same_uid u v ≡ true → u ≡ v
uid_is u v e = uid_cmp_same u v (by_tie (uid_cmp u v) (sym (uid_cmp_ties u v) ∙ e))
  where
    by_tie : (o : Ordering) → is_eq o ≡ true → o ≡ Equal
    by_tie Equal h = refl
    by_tie Less h = absurd (true≢false (sym h))
    by_tie Greater h = absurd (true≢false (sym h))

-- ---- lists without some uids, or with more

member-kept : (gone us : List Uid) (q : Uid) → list_any (same_uid q) (filter (λ u. not (list_any (same_uid u) gone)) us) ≡ (list_any (same_uid q) us && not (list_any (same_uid q) gone))
member-kept gone us q =
    any-filter_same (same_uid q) (λ u. not (list_any (same_uid u) gone)) (not (list_any (same_uid q) gone)) (λ u e. ap (λ x. not (list_any (same_uid x) gone)) (sym (uid_is q u e))) us ∙ turned (not (list_any (same_uid q) gone)) (list_any (same_uid q) us)

pub kept_listed : (gone us vs : List Uid) → vs ≡ filter (λ u. not (list_any (same_uid u) gone)) us → set.from_list {R = uid_cmp} vs ≡ set.difference (set.from_list us) (set.from_list gone)
kept_listed gone us vs is = same_uids _ _ (λ q.
    contains-listed vs q ∙ ap (λ xs. list_any (same_uid q) xs) is ∙ member-kept gone us q
    ∙ ap (λ b. b && not (list_any (same_uid q) gone)) (sym (contains-listed us q)) ∙ ap (λ b. set.contains (set.from_list {R = uid_cmp} us) q && not b) (sym (contains-listed gone q)) ∙ sym (set.contains-difference uid_cmp_total (set.from_list us) (set.from_list gone) q))

-- of the uids of a set those that another lacks
pub beside_set : (s t : UidSet) (us : List Uid) → set.from_list us ≡ t → set.from_list {R = uid_cmp} (beside s us) ≡ set.difference t s
beside_set s t us is = same_uids _ _ (λ q.
    contains-listed (beside s us) q
    ∙ any-filter_same (same_uid q) (λ u. not (set.contains s u)) (not (set.contains s q)) (λ u e. ap (λ x. not (set.contains s x)) (sym (uid_is q u e))) us
    ∙ turned (not (set.contains s q)) (list_any (same_uid q) us)
    ∙ ap (λ b. b && not (set.contains s q)) (sym (contains-listed us q) ∙ ap (λ x. set.contains x q) is)
    ∙ sym (set.contains-difference uid_cmp_total t s q))

pub one_less : (us vs : List Uid) (k : Uid) → vs ≡ filter (λ u. not (same_uid u k)) us → set.from_list {R = uid_cmp} vs ≡ set.remove (set.from_list us) k
one_less us vs k is = same_uids _ _ (λ q.
    contains-listed vs q ∙ ap (λ xs. list_any (same_uid q) xs) is
    ∙ any-filter_same (same_uid q) (λ u. not (same_uid u k)) (not (same_uid q k)) (λ u e. ap (λ x. not (same_uid x k)) (sym (uid_is q u e))) us
    ∙ ap (λ b. not b && list_any (same_uid q) us) (uid_cmp_ties q k)
    ∙ ap (λ b. not (eq_by_cmp uid_cmp q k) && b) (sym (contains-listed us q))
    ∙ sym (set.contains-remove uid_cmp_total (set.from_list us) k q))

pub one_more : (s : UidSet) (k : Uid) → set.union s (set.from_list (k ∷ [])) ≡ set.insert s k
one_more s k = same_uids _ _ (λ q.
    contains-both s (set.from_list (k ∷ [])) q ∙ ap (λ b. set.contains s q || b) (contains-listed (k ∷ []) q)
    ∙ last (set.contains s q) (same_uid q k) ∙ ap (λ b. b || set.contains s q) (uid_cmp_ties q k)
    ∙ sym (set.contains-insert uid_cmp_total s k q))
  where
    last : (a b : Bool) → (a || (b || false)) ≡ (b || a)
    last true true = refl
    last true false = refl
    last false true = refl
    last false false = refl

-- two lists behind one another hold what both do
pub joined : (us vs : List Uid) → set.from_list {R = uid_cmp} (us ++ vs) ≡ set.union (set.from_list vs) (set.from_list us)
joined us vs = same_uids _ _ (λ q.
    contains-listed (us ++ vs) q ∙ list_any-append (same_uid q) us vs ∙ swapped (list_any (same_uid q) us) (list_any (same_uid q) vs)
    ∙ ap (λ b. b || list_any (same_uid q) us) (sym (contains-listed vs q)) ∙ ap (λ b. set.contains (set.from_list {R = uid_cmp} vs) q || b) (sym (contains-listed us q))
    ∙ sym (contains-both (set.from_list vs) (set.from_list us) q))
  where
    swapped : (a b : Bool) → (a || b) ≡ (b || a)
    swapped true true = refl
    swapped true false = refl
    swapped false true = refl
    swapped false false = refl

-- ---- a change of nothing

-- what is true of no listed uid, and of each of which another test is true: that test fails too
pub none_passes : (p r : Uid → Bool) → ((q : Uid) → r q ≡ true → p q ≡ true) → (ks : List Uid) → list_any p ks ≡ false → list_any r ks ≡ false
none_passes p r on [] h = refl
none_passes p r on (k ∷ ks) h = elim (r k) as (λ b. r k ≡ b → (b || list_any r ks) ≡ false) [
  | true ↦ λ e. absurd (true≢false (sym (on k e) ∙ left_false (p k) (list_any p ks) h))
  | false ↦ λ e. none_passes p r on ks (right_false (p k) (list_any p ks) h)
] refl

pub difference_apart : (s : UidSet) (ks : List Uid) → list_any (set.contains s) ks ≡ false → set.difference s (set.from_list ks) ≡ s
difference_apart s ks h = same_uids _ _ (λ q. set.contains-difference uid_cmp_total s (set.from_list ks) q ∙ ap (λ b. set.contains s q && not b) (contains-listed ks q) ∙ by_test q (set.contains s q) refl)
  where
    by_test : (q : Uid) (b : Bool) → set.contains s q ≡ b → (b && not (list_any (same_uid q) ks)) ≡ b
    by_test q true e = ap not (none_passes (set.contains s) (same_uid q) (λ k t. ap (set.contains s) (sym (uid_is q k t)) ∙ e) ks h)
    by_test q false e = refl

pub remove_absent : (s : UidSet) (k : Uid) → set.contains s k ≡ false → set.remove s k ≡ s
remove_absent s k h = same_uids _ _ (λ q. set.contains-remove uid_cmp_total s k q ∙ ap (λ b. not b && set.contains s q) (sym (uid_cmp_ties q k)) ∙ by_test q (same_uid q k) refl)
  where
    by_test : (q : Uid) (b : Bool) → same_uid q k ≡ b → (not b && set.contains s q) ≡ set.contains s q
    by_test q true e = sym (ap (set.contains s) (uid_is q k e) ∙ h)
    by_test q false e = refl
