-- Lists of uids that rise have each uid once, and so have two behind one another that have none in common.
use Rattle.std.proofs.Common.{◌≡◌, Bool, true, false, not, ◌||◌, ◌&&◌, List, [], ◌∷◌, ◌++◌, refl, sym, ap, ◌∙◌, subst, true≢false, slice_index_or}
use Rattle.std.specs.Ordering.{is_eq}
use Rattle.std.specs.FinSet as set
use Rattle.std.specs.List.{list_any, IsDistinct, AllByRecursion}
use Rattle.std.proofs.lemmas.List.Folds.{list_any-append}
use Rattle.std.proofs.lemmas.Map.Keys.{Less-from_sorted, IsDistinct-from_apart, IsDistinct-head, IsDistinct-tail, IsDistinct-cons}
use Rattle.cedar_language.specs.Uid.{Uid}
use Rattle.cedar_language.specs.Order.{uid_cmp, same_uid}
use Rattle.cedar_literals.specs.Laws.{uid_cmp_total, uid_cmp_ties, same_uid_equiv}
use Rattle.cedar_entities.specs.Lists.{UidSet, AreRising, AreInTurn}
use Rattle.cedar_entities.proofs.UidSets.{contains-listed, contains-both}
use Rattle.cedar_lemmas.proofs.Booleans.{or_first as left_false, or_second as right_false}
use Rattle.std.proofs.lemmas.Bool.{or_right as or_else}

pub rising_distinct : (us : List Uid) → AreRising us → IsDistinct same_uid us
rising_distinct us rises = IsDistinct-from_apart same_uid us (λ i j d h k. uid_cmp_ties (slice_index_or us i d) (slice_index_or us j d) ∙ ap is_eq (Less-from_sorted uid_cmp us i j d rises h k))

apart_from : (x : Uid) (ys : List Uid) → list_any (same_uid x) ys ≡ false → AllByRecursion (λ y. same_uid x y ≡ false) ys
apart_from x [] h = tt
apart_from x (y ∷ ys) h = (left_false (same_uid x y) (list_any (same_uid x) ys) h, apart_from x ys (right_false (same_uid x y) (list_any (same_uid x) ys) h))

both_apart : (x : Uid) (xs ys : List Uid) → AllByRecursion (λ y. same_uid x y ≡ false) xs → AllByRecursion (λ y. same_uid x y ≡ false) ys → AllByRecursion (λ y. same_uid x y ≡ false) (xs ++ ys)
both_apart x [] ys h k = k
both_apart x (z ∷ zs) ys h k = (h.0, both_apart x zs ys h.1 k)

distinct_both : (xs ys : List Uid) → IsDistinct same_uid xs → IsDistinct same_uid ys → ((q : Uid) → list_any (same_uid q) xs ≡ true → list_any (same_uid q) ys ≡ false) → IsDistinct same_uid (xs ++ ys)
distinct_both [] ys d e apart = e
distinct_both (x ∷ xs) ys d e apart =
    IsDistinct-cons same_uid x (xs ++ ys)
    (both_apart x xs ys (IsDistinct-head same_uid x xs d) (apart_from x ys (apart x (ap (λ b. b || list_any (same_uid x) xs) (same_uid_equiv.refl x)))))
    (distinct_both xs ys (IsDistinct-tail same_uid x xs d) e (λ q h. apart q (or_else (same_uid q x) (list_any (same_uid q) xs) h)))

module _ (s t : UidSet) (us : List Uid) (turn : AreInTurn s t us) where
  in_first : (q : Uid) → list_any (same_uid q) turn.first ≡ set.contains s q
  in_first q = sym (contains-listed turn.first q) ∙ ap (λ x. set.contains x q) turn.are_first

  in_others : (q : Uid) → list_any (same_uid q) turn.others ≡ (set.contains t q && not (set.contains s q))
  in_others q = sym (contains-listed turn.others q) ∙ ap (λ x. set.contains x q) turn.are_others ∙ set.contains-difference uid_cmp_total t s q

  -- together they are the uids of both sets, each once
  pub members_in_turn : (q : Uid) → list_any (same_uid q) us ≡ set.contains (set.union s t) q
  members_in_turn q =
      ap (λ xs. list_any (same_uid q) xs) turn.listed ∙ list_any-append (same_uid q) turn.first turn.others
      ∙ ap (λ b. b || list_any (same_uid q) turn.others) (in_first q) ∙ ap (λ b. set.contains s q || b) (in_others q)
      ∙ either (set.contains s q) (set.contains t q) ∙ sym (contains-both s t q)
    where
      either : (a b : Bool) → (a || (b && not a)) ≡ (a || b)
      either true b = refl
      either false true = refl
      either false false = refl

  pub distinct_in_turn : IsDistinct same_uid us
  distinct_in_turn =
      subst (IsDistinct same_uid) (sym turn.listed)
      (distinct_both turn.first turn.others (rising_distinct turn.first turn.first_rise) (rising_distinct turn.others turn.others_rise)
      (λ q h. in_others q ∙ ap (λ b. set.contains t q && not b) (sym (in_first q) ∙ h) ∙ never (set.contains t q)))
    where
      never : (a : Bool) → (a && false) ≡ false
      never true = refl
      never false = refl
