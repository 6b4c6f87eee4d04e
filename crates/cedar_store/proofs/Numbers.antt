-- The ids policy0, policy1, ..: two of them are equal only at equal numbers, and n of them need a list of n.
use Rattle.std.proofs.Common.{◌≡◌, ℕ, zero, suc, ◌+◌, ◌-◌, ◌⊎◌, inl, inr, ◌^◌, ◌<◌, ◌≤◌, Bool, true, false, ◌||◌, List, [], ◌∷◌, length, codes, decimal, refl, sym, subst, true≢false, arith, ltb, ltb-true, ltb-false}
use Rattle.std.specs.List.{IsDistinct, AllByRecursion}
use Rattle.std.specs.Set.{is_member}
use Rattle.std.specs.Cmp.Lexicographic.{nat_list_eq_equiv}
use Rattle.std.proofs.lemmas.Bool.{cases_lt, or_from, or_left, or_right}
use Rattle.std.proofs.lemmas.Fmt.{decimal_injective}
use Rattle.std.proofs.lemmas.List.{append_cancel_left}
use Rattle.std.proofs.lemmas.Map.Made.{length-le_from_is_member}
use Rattle.cedar_language.specs.Uid.{Text}
use Rattle.cedar_language.specs.Order.{same_text}
use Rattle.cedar_grammar.specs.Syntax.{numbered}
use Rattle.cedar_policy_set.specs.Entries.{Entries, is_bound}
use Rattle.cedar_policy_set.specs.Numbers.{BindsNumbers, IsNextUnbound}
use Rattle.cedar_policy_set.proofs.Finding.{same_id, id_apart}
use Rattle.cedar_store.specs.Renaming.{IsNextFree, is_taken}
use Rattle.cedar_store.specs.Room.{HasRoom}

pub numbered_injective : (m n : ℕ) → m < 2 ^ 64 → n < 2 ^ 64 → numbered m ≡ numbered n → m ≡ n
numbered_injective m n hm hn e = decimal_injective m n hm hn (append_cancel_left (codes "policy") (decimal m) (decimal n) e)

pub numbered_apart : (m n : ℕ) → m < n → n < 2 ^ 64 → same_text (numbered n) (numbered m) ≡ false
numbered_apart m n lt small = id_apart (numbered n) (numbered m) (λ e. let same : n ≡ m = numbered_injective n m small (omega arith) e in omega arith)

-- the ids numbered below n
ids_below : ℕ → List Text
ids_below zero = []
ids_below (suc n) = numbered n ∷ ids_below n

length-ids_below : (n : ℕ) → length (ids_below n) ≡ n
unfolding ids_below
length-ids_below zero = refl
length-ids_below (suc n) = let e = length-ids_below n in omega arith

apart_below : (n m : ℕ) → m ≤ n → n < 2 ^ 64 → AllByRecursion (λ y. same_text (numbered n) y ≡ false) (ids_below m)
unfolding ids_below
apart_below n zero h small = tt
apart_below n (suc m) h small = (numbered_apart m n (omega arith) small, apart_below n m (omega arith) small)

distinct_below : (n : ℕ) → n ≤ 2 ^ 64 → IsDistinct same_text (ids_below n)
unfolding ids_below IsDistinct
distinct_below zero h = tt
distinct_below (suc n) h = (apart_below n n (omega arith) (omega arith), distinct_below n (omega arith))

members_below : (used : List Text) (n : ℕ) → ((k : ℕ) → k < n → is_member same_text used (numbered k) ≡ true) → (q : Text) → is_member same_text (ids_below n) q ≡ true → is_member same_text used q ≡ true
unfolding ids_below
members_below used zero all q h = absurd (true≢false (sym h))
members_below used (suc n) all q h = by (same_text q (numbered n)) refl h (members_below used n (λ k lt. all k (omega arith)) q)
  where
    by : (r : Bool) → same_text q (numbered n) ≡ r → (r || is_member same_text (ids_below n) q) ≡ true → (is_member same_text (ids_below n) q ≡ true → is_member same_text used q ≡ true) → is_member same_text used q ≡ true
    by true e g below = subst (λ x. is_member same_text used x ≡ true) (sym (same_id q (numbered n) e)) (all n (omega arith))
    by false e g below = below g

-- the pigeonhole: a list that holds the first n numbered ids is n long
pub numbers_are_few : (used : List Text) (n : ℕ) → n ≤ 2 ^ 64 → ((k : ℕ) → k < n → is_member same_text used (numbered k) ≡ true) → n ≤ length used
numbers_are_few used n small all =
    subst (λ l. l ≤ length used) (length-ids_below n) (length-le_from_is_member nat_list_eq_equiv (ids_below n) used (distinct_below n small) (members_below used n all))

-- each of the ids numbered from there up to here is bound in either set
abbrev pub AreTaken : Entries → Entries → ℕ → ℕ → Type 0
AreTaken mine theirs from to = (k : ℕ) → from ≤ k → k < to → is_taken mine theirs (numbered k) ≡ true

-- those that are bound in mine, and then one that is bound in theirs
pub taken_on : (mine theirs : Entries) (from next n : ℕ) → AreTaken mine theirs from next → BindsNumbers mine next n → is_bound theirs (numbered n) ≡ true → AreTaken mine theirs from (n + 1)
taken_on mine theirs from next n before passed here k low high = by (cases_lt k n) (cases_lt k next)
  where
    by : (k < n) ⊎ (n ≤ k) → (k < next) ⊎ (next ≤ k) → is_taken mine theirs (numbered k) ≡ true
    by other (inl early) = before k low early
    by (inl below) (inr late) = or_left (is_bound mine (numbered k)) (is_bound theirs (numbered k)) (passed k late below)
    by (inr above) (inr late) =
        let same : n ≡ k = omega arith in
        or_right (is_bound mine (numbered k)) (is_bound theirs (numbered k)) (subst (λ j. is_bound theirs (numbered j) ≡ true) same here)

-- so far, and all that are left
pub taken_up : (mine theirs : Entries) (from next end : ℕ) → AreTaken mine theirs from next → BindsNumbers mine next end → AreTaken mine theirs from end
taken_up mine theirs from next end before passed k low high = by (cases_lt k next)
  where
    by : (k < next) ⊎ (next ≤ k) → is_taken mine theirs (numbered k) ≡ true
    by (inl early) = before k low early
    by (inr late) = or_left (is_bound mine (numbered k)) (is_bound theirs (numbered k)) (passed k late high)

-- the next one that is bound in neither
pub free_on : (mine theirs : Entries) (from next n : ℕ) → from ≤ next → AreTaken mine theirs from next → IsNextUnbound mine next n → is_bound theirs (numbered n) ≡ false → IsNextFree mine theirs from n
free_on mine theirs from next n reached before found free = record {
  reached = let on = found.reached in omega arith;
  fits = let small = found.small in omega arith;
  free = or_from (is_bound mine (numbered n)) (is_bound theirs (numbered n)) found.free free;
  passed = taken_up mine theirs from next n before found.passed;
}

-- so with room the counter meets a free id
pub room_is_enough : (mine theirs : Entries) (from : ℕ) → HasRoom mine theirs from → (end : ℕ) → end ≡ 2 ^ 64 - 1
    → AreTaken mine theirs from end → ⊥
room_is_enough mine theirs from room end is passed =
    let few = room.few in
    let all : (k : ℕ) → k < end → is_member same_text room.used (numbered k) ≡ true = λ k lt. by k lt (ltb k from) refl in
    let long : end ≤ length room.used = numbers_are_few room.used end (omega arith) all in
    omega arith
  where
    by : (k : ℕ) → k < end → (b : Bool) → ltb k from ≡ b → is_member same_text room.used (numbered k) ≡ true
    by k lt true e = room.below k (ltb-true k from e)
    by k lt false e = room.bound (numbered k) (passed k (ltb-false k from e) lt)
