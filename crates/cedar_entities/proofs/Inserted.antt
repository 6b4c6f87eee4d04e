-- Uids that are put in their places in a list that rises.
use Rattle.std.proofs.Common.{◌≡◌, ℕ, zero, suc, ◌+◌, ◌<◌, ◌≤◌, length, Bool, true, false, ◌||◌, List, [], ◌∷◌, ◌++◌, take, drop, slice_index_or, nat_eq}
use Rattle.std.proofs.Common.{IsTrue, ◌↔◌, true≢false, refl, sym, ap, ◌∙◌, arith}
use Rattle.std.proofs.lemmas.Bool.{eqb-true, eq-eqb}
use Rattle.std.proofs.lemmas.List.{nil_from_length}
use Rattle.std.specs.declared.cmp.Ordering.TheVariants.{Less, Greater}
use Rattle.std.specs.Ordering.{ordering_reverse}
use Rattle.std.specs.FinSet as set
use Rattle.std.specs.List.{AllByRecursion, All, list_any, insert}
use Rattle.std.specs.List.Sorted.{IsStrictlySortedBy, IsPartitionPoint}
use Rattle.std.proofs.lemmas.List.Elements.{All-from_recursion, recursion_from_All, All-append, All-take, All-drop, All-cons}
use Rattle.std.proofs.lemmas.List.Sorted.{IsPermutation-insert, list_any-IsPermutation}
use Rattle.cedar_language.specs.Uid.{Uid}
use Rattle.cedar_language.specs.Order.{uid_cmp, same_uid}
use Rattle.cedar_literals.specs.Laws.{uid_cmp_total, same_uid_equiv}
use Rattle.cedar_entities.specs.Lists.{UidSet, AreRising}
use Rattle.cedar_entities.proofs.UidSets.{contains-listed, contains-both, same_uids, uid_is}

turned : (u y : Uid) → uid_cmp y u ≡ Greater → uid_cmp u y ≡ Less
turned u y e = uid_cmp_total.antisymm u y ∙ ap ordering_reverse e

all_above : (u : Uid) (xs : List Uid) → ((k : ℕ) (d : Uid) → k < length xs → uid_cmp (slice_index_or xs k d) u ≡ Greater)
    → AllByRecursion (λ y. uid_cmp u y ≡ Less) xs
all_above u [] h = tt
all_above u (x ∷ xs) h = (turned u x (h 0 x (omega arith)), all_above u xs (λ k d l. h (suc k) d (omega arith)))

-- the first are below it, and those from there above it
pub inserted_rises : (xs : List Uid) (u : Uid) (i : ℕ) → AreRising xs → i ≤ length xs → ((k : ℕ) (d : Uid) → k < i → uid_cmp (slice_index_or xs k d) u ≡ Less)
    → ((k : ℕ) (d : Uid) → i ≤ k → k < length xs → uid_cmp (slice_index_or xs k d) u ≡ Greater) → AreRising (insert xs i u)
unfolding IsStrictlySortedBy
inserted_rises xs u zero h in' low high = (all_above u xs (λ k d l. high k d (omega arith) l), h)
inserted_rises [] u (suc i) h in' low high = absurd (omega arith)
inserted_rises (x ∷ xs) u (suc i) h in' low high =
    let Above : Uid → Type 0 = λ y. uid_cmp x y ≡ Less in
    let all = All-from_recursion Above xs h.0 in (
      recursion_from_All Above (insert xs i u) (All-append Above (take i xs) (u ∷ drop i xs) (All-take Above i xs all) (All-cons Above u (drop i xs)
          (low 0 x (omega arith)) (All-drop Above i xs all))),
      inserted_rises xs u i h.1 (omega arith) (λ k d l. low (suc k) d (omega arith)) (λ k d l m. high (suc k) d (omega arith) (omega arith)),
    )

pub inserted_any : (xs : List Uid) (u : Uid) (i : ℕ) (q : Uid) → list_any (same_uid q) (insert xs i u) ≡ (same_uid q u || list_any (same_uid q) xs)
inserted_any xs u i q = sym (list_any-IsPermutation (same_uid q) (u ∷ xs) (insert xs i u) (IsPermutation-insert xs i u))

-- one that is there adds nothing
pub there_already : (xs : List Uid) (u : Uid) → list_any (same_uid u) xs ≡ true → (q : Uid)
    → list_any (same_uid q) xs ≡ (same_uid q u || list_any (same_uid q) xs)
there_already xs u h q = by_test (same_uid q u) refl
  where
    by_test : (b : Bool) → same_uid q u ≡ b → list_any (same_uid q) xs ≡ (b || list_any (same_uid q) xs)
    by_test true t = ap (λ x. list_any (same_uid x) xs) (uid_is q u t) ∙ h
    by_test false t = refl

-- one more of those that are left stands there
pub stands_more : (now next rest more all : List Uid) (old : List Uid) (u : Uid) → rest ≡ u ∷ more
    → ((q : Uid) → list_any (same_uid q) next ≡ (same_uid q u || list_any (same_uid q) now))
    → ((q : Uid) → (list_any (same_uid q) rest || list_any (same_uid q) now) ≡ (list_any (same_uid q) all || list_any (same_uid q) old))
    → (q : Uid) → (list_any (same_uid q) more || list_any (same_uid q) next) ≡ (list_any (same_uid q) all || list_any (same_uid q) old)
stands_more now next rest more all old u step adds before q =
    ap (λ b. list_any (same_uid q) more || b) (adds q) ∙ moved (same_uid q u) (list_any (same_uid q) more) (list_any (same_uid q) now)
    ∙ ap (λ us. list_any (same_uid q) us || list_any (same_uid q) now) (sym step) ∙ before q
  where
    moved : (a m n : Bool) → (m || (a || n)) ≡ ((a || m) || n)
    moved true true n = refl
    moved true false n = refl
    moved false m n = refl

pub joined_set : (old new uids : List Uid) → ((q : Uid) → list_any (same_uid q) new ≡ (list_any (same_uid q) uids || list_any (same_uid q) old))
    → set.from_list {R = uid_cmp} new ≡ set.union (set.from_list old) (set.from_list uids)
joined_set old new uids is = same_uids _ _ (λ q.
    contains-listed new q ∙ is q ∙ swapped (list_any (same_uid q) uids) (list_any (same_uid q) old)
    ∙ ap (λ b. b || list_any (same_uid q) uids) (sym (contains-listed old q)) ∙ ap (λ b. set.contains (set.from_list {R = uid_cmp} old) q || b)
    (sym (contains-listed uids q))
    ∙ sym (contains-both (set.from_list old) (set.from_list uids) q))
  where
    swapped : (a b : Bool) → (a || b) ≡ (b || a)
    swapped true true = refl
    swapped true false = refl
    swapped false true = refl
    swapped false false = refl

none_listed : (us : List Uid) → ((q : Uid) → list_any (same_uid q) us ≡ false) → length us ≡ 0
none_listed [] h = refl
none_listed (u ∷ us) h = absurd (true≢false (sym (ap (λ b. b || list_any (same_uid u) us) (same_uid_equiv.refl u)) ∙ h u))

-- a list without uids is that of the empty set
pub empties : (us : List Uid) (s : UidSet) → set.from_list us ≡ s → (r : Bool) → r ≡ nat_eq (length us) 0 → IsTrue r ↔ (s ≡ set.empty)
empties us s is r says = (
  λ t. same_uids s set.empty (λ q.
      sym (ap (λ x. set.contains x q) is) ∙ contains-listed us q
      ∙ ap (λ xs. list_any (same_uid q) xs) (nil_from_length us (eqb-true (length us) 0 (sym says ∙ t))) ∙ sym (set.contains-empty uid_cmp q)),
  λ e. says ∙ eq-eqb (length us) 0 (none_listed us (λ q. sym (contains-listed us q) ∙ ap (λ x. set.contains x q) (is ∙ e) ∙ set.contains-empty uid_cmp q)),
)
